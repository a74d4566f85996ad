use Rattle.warp_keep.proofs.Closed.{closed_by_greatest}
use Rattle.warp_keep.proofs.law.closed_by_greatest.Goals as goal

pub returns : goal.returns
returns c = closed_by_greatest
