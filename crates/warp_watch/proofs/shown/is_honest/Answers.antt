-- No origin of the program is broken, and no other can be; nor is a joint announcement.
use Rattle.std.proofs.Common.{◌≡◌, ◌∙◌, ◌<◌, ap, arith, subst, sym}
use Rattle.warp_step.proofs.ValidLemmas.{validity}
use Rattle.warp_watch.proofs.Shownness.{none_broken}
use Rattle.warp_watch.proofs.shown.is_honest.Goals as goal

pub returns : goal.returns
returns g c =
    let r = c.args.replica.now in
    let origins = subst (λ P. 0 < P.origins) c.program.ensures (validity c.program.result.now c.valid.ensures).limits.origins_some in
    let some = c.one_answer.ensures.some r.program r.records origins c.valid-2.ensures.once in
    let many : c.origins-origins.result ≡ r.program.origins = c.origins-origins.ensures ∙ ap (λ P. P.origins) c.program-2.ensures in
    λ yes. none_broken r.program r.records c.valid-2.ensures.allowed some.0 some.1
    (λ origin below. c.loop-origin.invariant some.0 some.1 origin (omega (arith, below, many, c.loop-origin-test.false)))
    (sym (c.is_jointly_broken.ensures some.0 some.1) ∙ c.if-is_jointly_broken.false)
