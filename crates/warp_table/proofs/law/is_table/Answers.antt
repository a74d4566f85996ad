use Rattle.warp_table.proofs.Told.{is_table}
use Rattle.warp_table.proofs.law.is_table.Goals as goal

pub returns : goal.returns
returns c = is_table
