-- the room so far, and how many cells the arrays that are left have
use Rattle.std.proofs.Common.{◌≡◌, ◌+◌, drop, map}
use Rattle.warp_prog.specs.Limits.{cells_of}
use Rattle.warp_prog.specs.View.{array_tree}
use Rattle.warp_prog.proofs.limits.room_after_cells.Given as goal

abbrev pub invariant-loop-array : goal.invariant-loop-array
invariant-loop-array l = l.left + cells_of (map array_tree l.arrays) ≡ l.room + cells_of (map array_tree (drop l.array-index l.arrays))
