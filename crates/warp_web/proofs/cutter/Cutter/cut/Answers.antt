use Rattle.std.proofs.Common.{◌≡◌, ℕ, ◌+◌, min, length, drop, ap, ◌∙◌, refl}
use Rattle.warp_record.specs.Lines.{first_end}
use Rattle.warp_web.proofs.LinesSaid.{says_cut}
use Rattle.warp_web.proofs.cutter.Cutter.cut.Goals as goal

pub returns-clause-says : goal.returns-clause-says
returns-clause-says c =
    let i = c.self.inside in
    let rest = i.rest.bytes.items in
    let push = c.push-count in
    let count : push.result.0 ≡ min (first_end rest + 1) (length rest) = rw (← c.as_slice.ensures) push.ensures.taken in
    rw (← c.self.view_is)
    (says_cut (record { line = i.feed; rest = rest; ended = i.has_ended }) _ push.result.1
    (c.advance.ensures ∙ ap (λ (n : ℕ). drop n rest) count)
    refl
    (rw (← c.as_slice.ensures) push.ensures.given) (rw (← c.as_slice.ensures) push.ensures.line) push.ensures.fresh
    (rw (← c.as_slice.ensures) push.ensures.kept))
