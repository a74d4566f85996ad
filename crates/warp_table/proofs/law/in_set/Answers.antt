use Rattle.warp_table.proofs.Sets.{in_set}
use Rattle.warp_table.proofs.law.in_set.Goals as goal

pub returns : goal.returns
returns c = in_set
