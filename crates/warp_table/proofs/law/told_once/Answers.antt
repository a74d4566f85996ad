use Rattle.warp_table.proofs.Told.{told_once}
use Rattle.warp_table.proofs.law.told_once.Goals as goal

pub returns : goal.returns
returns c = told_once
