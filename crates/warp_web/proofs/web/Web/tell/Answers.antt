use Rattle.std.proofs.Common.{ℕ, List, [], ◌++◌, ◌∷◌, subst}
use Rattle.warp_web.specs.Web.{Speaks, talk_of}
use Rattle.warp_web.proofs.WebLemmas.{on_ok, speaks_told}
use Rattle.warp_web.proofs.web.Web.tell.Goals as goal

pub returns-clause-speaks : goal.returns-clause-speaks
returns-clause-speaks c =
    on_ok c.add_text.result
    (λ leaves p s.
    let mid = talk_of c.answer_ping.new.self in
    let told = speaks_told p mid c.add_text.new.context c.add_text.new.self.frames.items c.in-Ok.text.now leaves (c.answer_ping.ensures.speaks p s) in
    subst (λ (t : List ℕ). Speaks (record p { told = p.told ++ t ∷ [] }) (record mid { conn = c.add_text.new.context; output = c.add_text.new.self.frames.items })) c.in-Ok.ensures.cases.0 told)
    c.add_text.ensures.ok
