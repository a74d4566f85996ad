use Rattle.std.proofs.Common.{ℕ, List, [], ◌++◌, ap, ◌∙◌}
use Rattle.warp_web.specs.Web.{talk_of}
use Rattle.warp_web.proofs.WebLemmas.{on_ok, pinged_adds, speaks_pinged}
use Rattle.warp_web.proofs.web.Web.ping.Goals as goal

pub returns-in-Ok-clause-speaks : goal.returns-in-Ok-clause-speaks
returns-in-Ok-clause-speaks c =
    on_ok c.add.result
    (λ is p s. speaks_pinged p (talk_of c.args.self.now) [] c.write.new.self c.new-ping.result.items c.write.new.output.items c.add.new.self.frames.items
    c.new-ping.ensures.items c.in-Ok.ensures.ok (is ∙ ap (λ (l : List ℕ). c.args.self.now.output.frames.items ++ l) c.as_slice.ensures) s)
    c.add.ensures.ok

pub returns-in-Ok-clause-adds : goal.returns-in-Ok-clause-adds
returns-in-Ok-clause-adds c =
    on_ok c.add.result
    (λ is p s. pinged_adds (talk_of c.args.self.now) [] c.write.new.self c.new-ping.result.items c.write.new.output.items c.add.new.self.frames.items
    c.new-ping.ensures.items c.in-Ok.ensures.ok (is ∙ ap (λ (l : List ℕ). c.args.self.now.output.frames.items ++ l) c.as_slice.ensures) s.server)
    c.add.ensures.ok
