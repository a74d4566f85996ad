use Rattle.std.proofs.Common.{◌∙◌}
use Rattle.warp_service.proofs.PeerSteps.{has_end_by}
use Rattle.warp_service.proofs.peer.has_line.Goals as goal

pub returns : goal.returns
returns c = c.is_some.ensures ∙ has_end_by c.line_len.result c.args.bytes.now c.line_len.ensures
