use Rattle.warp_room.proofs.Pieces.{once}
use Rattle.warp_room.proofs.law.records_once.Goals as goal

pub returns : goal.returns
returns c = once
