use Rattle.std.proofs.Common.{arith}
use Rattle.warp_run.proofs.Replaced.{cells_in-next, cells_in-some}
use Rattle.warp_run.proofs.changes.cells_of.Goals as goal

pub overflow_add-cells : goal.overflow_add-cells
overflow_add-cells c =
    let here = c.steps-test.true in
    let within = c.requires.within in
    let some = cells_in-some c.args.steps.now c.steps.at (omega (arith, here, within)) in
    omega (arith, some, c.requires.small, c.steps.invariant.cells)

pub steps-preserved : goal.steps-preserved
steps-preserved c =
    let here = c.steps-test.true in
    let within = c.requires.within in
    let next = cells_in-next c.args.steps.now c.steps.at (omega (arith, here, within)) in
    record { cells = omega (arith, next, c.steps.invariant.cells); most = omega (arith, here) }
