-- some array that is left exceeds its limits exactly if some of all does
use Rattle.std.proofs.Common.{◌≡◌, drop, map}
use Rattle.std.specs.List.{list_any}
use Rattle.warp_prog.specs.Limits.{array_exceeds}
use Rattle.warp_prog.specs.View.{array_tree}
use Rattle.warp_prog.proofs.limits.any_array.Given as goal

abbrev pub invariant-loop-i : goal.invariant-loop-i
invariant-loop-i l = list_any array_exceeds (map array_tree (drop l.i l.arrays)) ≡ list_any array_exceeds (map array_tree l.arrays)
