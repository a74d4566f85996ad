use Rattle.warp_web.proofs.HttpLemmas.{heard_converses}
use Rattle.warp_web.proofs.requests.Http.hear.Goals as goal

pub returns-clause-converses : goal.returns-clause-converses
returns-clause-converses c =
    heard_converses c.receive.result c.args.bytes.now c.args.self.now c.receive.new.self c.receive.ensures.heard c.receive.ensures.config c.receive.ensures.news
