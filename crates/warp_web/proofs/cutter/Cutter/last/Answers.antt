use Rattle.std.proofs.Common.{◌≡◌, ◌∙◌, [], refl, ap}
use Rattle.warp_web.specs.Lines.{Unsaid}
use Rattle.warp_web.proofs.LinesSaid.{says_last, all_said}
use Rattle.warp_web.proofs.cutter.Cutter.last.Goals as goal

pub returns-clause-says : goal.returns-clause-says
returns-clause-says c =
    let i = c.self.inside in
    let none : i.rest.bytes.items ≡ [] = ap (λ (u : Unsaid). u.rest) c.self.view_is ∙ c.requires in
    rw (← c.self.view_is)
    (says_last (record { line = i.feed; rest = i.rest.bytes.items; ended = i.has_ended }) _ c.end.result none none refl
    (c.replace.ensures.after ∙ c.new.ensures)
    (rw (← c.replace.ensures.value) c.end.ensures))

pub returns-clause-all : goal.returns-clause-all
returns-clause-all c =
    let i = c.self.inside in
    let none : i.rest.bytes.items ≡ [] = ap (λ (u : Unsaid). u.rest) c.self.view_is ∙ c.requires in
    rw (← c.self.view_is)
    (all_said (record { line = i.feed; rest = i.rest.bytes.items; ended = i.has_ended }) c.end.result none
    (rw (← c.replace.ensures.value) c.end.ensures))
