use Rattle.std.proofs.Common.{take}
use Rattle.warp_web.specs.Web.{talk_of}
use Rattle.warp_web.proofs.WebLemmas.{speaks_heard}
use Rattle.warp_web.proofs.web.Web.hear.Goals as goal

pub returns-in-Ok-clause-speaks : goal.returns-in-Ok-clause-speaks
returns-in-Ok-clause-speaks c = λ p s.
    speaks_heard p (talk_of c.args.self.now) (take c.min-count.result c.args.bytes.now) c.keep.new.self.bytes.items c.in-Ok.ensures.ok s
