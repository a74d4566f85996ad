-- No array that was looked at has the cell, and nothing is appended yet.
use Rattle.std.proofs.Common.{◌≡◌, drop, map}
use Rattle.warp_step.specs.Labelled.{array_name}
use Rattle.warp_trace.specs.Labels.{cell_name}
use Rattle.warp_trace.proofs.row_text.append_cell.Given as goal

abbrev pub invariant-loop-array : goal.invariant-loop-array
invariant-loop-array l =
    (l.text.items ≡ l.initial.text.items)
    × (cell_name (map array_name (drop l.array-index l.arrays)) l.variable ≡ cell_name (map array_name l.arrays) l.variable)
