use Rattle.warp_table.proofs.Sets.{one_size}
use Rattle.warp_table.proofs.law.one_size.Goals as goal

pub returns : goal.returns
returns c = one_size
