-- some reaction that is left is at fault exactly if some of all is
use Rattle.std.proofs.Common.{◌≡◌, drop, map}
use Rattle.std.specs.List.{list_any}
use Rattle.warp_prog.specs.View.{reactor_tree, reaction_tree}
use Rattle.warp_prog.specs.inner.Rule.{reaction_breaks}
use Rattle.warp_prog.proofs.names.any_reaction.Given as goal

abbrev pub invariant-loop-i : goal.invariant-loop-i
invariant-loop-i l =
    list_any (reaction_breaks l.are_known (reactor_tree l.reactor)) (map reaction_tree (drop l.i l.reactor.reactions.items))
    ≡ list_any (reaction_breaks l.are_known (reactor_tree l.reactor)) (map reaction_tree l.reactor.reactions.items)
