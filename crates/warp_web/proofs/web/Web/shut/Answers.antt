use Rattle.std.proofs.Common.{ℕ, List, [], ◌++◌, Some, ap, ◌∙◌}
use Rattle.warp_web.specs.Web.{talk_of}
use Rattle.warp_web.proofs.WebLemmas.{on_ok, close_does, closed_adds, speaks_closed}
use Rattle.warp_web.proofs.web.Web.shut.Goals as goal

pub returns-in-Ok-clause-speaks : goal.returns-in-Ok-clause-speaks
returns-in-Ok-clause-speaks c =
    on_ok c.add.result
    (λ is p s. speaks_closed p (talk_of c.args.self.now) (Some (c.args.code, [])) c.close.new.self c.new-close.result.items c.close.new.output.items c.add.new.self.frames.items
    c.new-close.ensures.items c.in-Ok.ensures.ok (is ∙ ap (λ (l : List ℕ). c.args.self.now.output.frames.items ++ l) c.as_slice.ensures) s)
    c.add.ensures.ok

pub returns-in-Ok-clause-does : goal.returns-in-Ok-clause-does
returns-in-Ok-clause-does c =
    on_ok c.add.result
    (λ is server. close_does (talk_of c.args.self.now) (Some (c.args.code, [])) c.close.new.self c.new-close.result.items c.close.new.output.items c.add.new.self.frames.items
    c.new-close.ensures.items c.in-Ok.ensures.ok (is ∙ ap (λ (l : List ℕ). c.args.self.now.output.frames.items ++ l) c.as_slice.ensures) server)
    c.add.ensures.ok

pub returns-in-Ok-clause-adds : goal.returns-in-Ok-clause-adds
returns-in-Ok-clause-adds c =
    on_ok c.add.result
    (λ is p s active. closed_adds (talk_of c.args.self.now) (Some (c.args.code, [])) c.close.new.self c.new-close.result.items c.close.new.output.items
    c.add.new.self.frames.items c.new-close.ensures.items c.in-Ok.ensures.ok
    (is ∙ ap (λ (l : List ℕ). c.args.self.now.output.frames.items ++ l) c.as_slice.ensures) s.server active)
    c.add.ensures.ok
