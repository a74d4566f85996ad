use Rattle.std.proofs.Common.{ℕ, List, ◌++◌, ap, ◌∙◌}
use Rattle.warp_web.specs.Web.{talk_of}
use Rattle.warp_web.proofs.WebLemmas.{speaks_answered}
use Rattle.warp_web.proofs.web.Web.answer_ping.Goals as goal

pub returns-in-Ok-clause-speaks : goal.returns-in-Ok-clause-speaks
returns-in-Ok-clause-speaks c = λ p s.
    speaks_answered p (talk_of c.args.self.now) c.add.new.self.frames.items c.new.result.bytes.items
    (c.in-Ok.ensures.ok ∙ ap (λ (l : List ℕ). c.args.self.now.output.frames.items ++ l) c.as_slice.ensures) c.new.ensures s
