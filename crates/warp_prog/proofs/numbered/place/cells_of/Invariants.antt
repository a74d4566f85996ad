-- the cells so far, and those of the arrays that are left, are those of all
use Rattle.std.proofs.Common.{◌≡◌, ◌+◌, drop, map}
use Rattle.warp_prog.specs.Limits.{cells_of}
use Rattle.warp_prog.specs.View.{array_tree}
use Rattle.warp_prog.proofs.numbered.place.cells_of.Given as goal

abbrev pub invariant-loop-array : goal.invariant-loop-array
invariant-loop-array l = l.cells + cells_of (map array_tree (drop l.array-index l.arrays)) ≡ cells_of (map array_tree l.arrays)
