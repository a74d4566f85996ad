use Rattle.warp_session.proofs.WentLemmas.{read_in_range}
use Rattle.warp_session.proofs.pulling.reply_of.Goals as goal

pub returns-in-Text-clause-reply : goal.returns-in-Text-clause-reply
returns-in-Text-clause-reply c = read_in_range c.args.form _ c.read_reply.result c.read_reply.ensures.found
