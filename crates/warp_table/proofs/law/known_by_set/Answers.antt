use Rattle.warp_table.proofs.Told.{known_by_set}
use Rattle.warp_table.proofs.law.known_by_set.Goals as goal

pub returns : goal.returns
returns c = known_by_set
