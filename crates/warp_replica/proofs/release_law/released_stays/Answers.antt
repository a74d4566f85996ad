use Rattle.warp_replica.proofs.ReleasedLists.{released_stays}
use Rattle.warp_replica.proofs.release_law.released_stays.Goals as goal

pub returns : goal.returns
returns c = released_stays
