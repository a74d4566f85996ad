use Rattle.std.proofs.Common.{sym, subst}
use Rattle.warp_web.specs.declared.requests.Http.{Http}
use Rattle.warp_web.specs.Http.{Converses}
use Rattle.warp_web.specs.Wire.{PassesIn}
use Rattle.warp_web.proofs.wire.Wire.answer.Goals as goal

pub returns-in-Http-clause-passes : goal.returns-in-Http-clause-passes
returns-in-Http-clause-passes g c = λ p h.
    c.answer.ensures.converses p
    (subst (λ (w : Http). Converses p w) (sym c.deref_mut.ensures.value) (subst (PassesIn p) c.in-Http.is h))
