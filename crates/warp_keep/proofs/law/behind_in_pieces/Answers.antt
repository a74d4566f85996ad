use Rattle.warp_keep.proofs.Singles.{pieces}
use Rattle.warp_keep.proofs.law.behind_in_pieces.Goals as goal

pub returns : goal.returns
returns c = pieces
