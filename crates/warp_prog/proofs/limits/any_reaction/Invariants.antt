-- some reaction that is left exceeds its limits exactly if some of all does
use Rattle.std.proofs.Common.{◌≡◌, drop, map}
use Rattle.std.specs.List.{list_any}
use Rattle.warp_prog.specs.Limits.{reaction_exceeds}
use Rattle.warp_prog.specs.View.{reaction_tree}
use Rattle.warp_prog.proofs.limits.any_reaction.Given as goal

abbrev pub invariant-loop-i : goal.invariant-loop-i
invariant-loop-i l =
    list_any (reaction_exceeds l.form) (map reaction_tree (drop l.i l.reactions)) ≡ list_any (reaction_exceeds l.form) (map reaction_tree l.reactions)
