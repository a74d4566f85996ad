use Rattle.warp_table.proofs.Sets.{one_set}
use Rattle.warp_table.proofs.law.one_set.Goals as goal

pub returns : goal.returns
returns c = one_set
