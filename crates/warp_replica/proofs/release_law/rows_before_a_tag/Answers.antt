use Rattle.warp_step.proofs.RowsBefore.{early_rows}
use Rattle.warp_replica.proofs.release_law.rows_before_a_tag.Goals as goal

pub returns : goal.returns
returns c = early_rows
