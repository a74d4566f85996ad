-- the reactions so far, and then those of the reactor that are left, are those before and all of the reactor's
use Rattle.std.proofs.Common.{◌≡◌, ◌++◌, map, drop}
use Rattle.warp_step.specs.Program.{rule_of}
use Rattle.warp_prog.specs.Numbered.{numbered_reaction, its_reactions}
use Rattle.warp_prog.specs.View.{reactor_tree, reaction_tree}
use Rattle.warp_prog.proofs.numbered.reactor.add_reactions.Given as goal

abbrev pub invariant-loop-reaction : goal.invariant-loop-reaction
invariant-loop-reaction l =
    map rule_of l.reactions.items ++ map (numbered_reaction l.before (reactor_tree l.reactor)) (map reaction_tree (drop l.reaction-index l.reactor.reactions.items))
    ≡ map rule_of l.fn.reactions.items ++ its_reactions l.before (reactor_tree l.reactor)
