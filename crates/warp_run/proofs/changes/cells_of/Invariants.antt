-- the steps so far
use Rattle.std.proofs.Common.{◌≡◌, ◌≤◌, take}
use Rattle.warp_run.specs.Stack.{cells_in}
use Rattle.warp_run.proofs.changes.cells_of.Given as goal

abbrev pub invariant-steps : goal.invariant-steps
invariant-steps l = record { cells : l.cells ≡ cells_in (take l.at l.steps); most : l.at ≤ l.count }
