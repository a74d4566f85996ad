-- along both traces, from one state to the next
use Rattle.warp_step.proofs.RowsBefore.{early_rows}
use Rattle.warp_step.proofs.law.early_rows.Goals as goal

pub returns : goal.returns
returns c = early_rows
