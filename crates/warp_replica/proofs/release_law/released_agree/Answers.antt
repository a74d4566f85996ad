use Rattle.warp_replica.proofs.ReleasedLists.{released_agree}
use Rattle.warp_replica.proofs.release_law.released_agree.Goals as goal

pub returns : goal.returns
returns c = released_agree
