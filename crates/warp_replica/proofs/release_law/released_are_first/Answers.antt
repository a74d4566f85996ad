use Rattle.warp_replica.proofs.ReleasedLists.{released_are_first}
use Rattle.warp_replica.proofs.release_law.released_are_first.Goals as goal

pub returns : goal.returns
returns c = released_are_first
