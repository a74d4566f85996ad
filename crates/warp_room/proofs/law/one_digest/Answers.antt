use Rattle.warp_room.proofs.Digests.{one_digest}
use Rattle.warp_room.proofs.law.one_digest.Goals as goal

pub returns : goal.returns
returns c = one_digest
