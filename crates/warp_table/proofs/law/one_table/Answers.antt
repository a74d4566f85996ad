use Rattle.warp_table.proofs.Told.{one_table}
use Rattle.warp_table.proofs.law.one_table.Goals as goal

pub returns : goal.returns
returns c = one_table
