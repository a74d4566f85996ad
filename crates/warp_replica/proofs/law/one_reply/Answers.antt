use Rattle.warp_replica.proofs.Replies.{one_reply}
use Rattle.warp_replica.proofs.law.one_reply.Goals as goal

pub returns : goal.returns
returns c = one_reply
