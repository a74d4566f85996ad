use Rattle.warp_table.proofs.CountedNames.{one_count}
use Rattle.warp_table.proofs.law.one_count.Goals as goal

pub returns : goal.returns
returns c = one_count
