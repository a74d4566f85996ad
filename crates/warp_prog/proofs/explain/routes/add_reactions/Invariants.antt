-- the routes so far, and then the reactions that are left, are those before and all reactions
use Rattle.std.proofs.Common.{◌≡◌, ◌++◌, drop, map}
use Rattle.warp_step.specs.Program.{rule_of}
use Rattle.warp_prog.specs.Waits.{passage_of, reaction_passage}
use Rattle.warp_prog.proofs.explain.routes.add_reactions.Given as goal

abbrev pub invariant-loop-reaction : goal.invariant-loop-reaction
invariant-loop-reaction l =
    map passage_of l.routes.items ++ map (reaction_passage l.actions) (map rule_of (drop l.reaction-index l.reactions))
    ≡ map passage_of l.fn.routes.items ++ map (reaction_passage l.actions) (map rule_of l.reactions)
