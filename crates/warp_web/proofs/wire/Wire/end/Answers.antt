use Rattle.std.proofs.Common.{sym, subst}
use Rattle.warp_web.specs.declared.requests.Http.{Http}
use Rattle.warp_web.specs.Http.{Converses}
use Rattle.warp_web.specs.Wire.{PassesIn}
use Rattle.warp_web.proofs.wire.Wire.end.Goals as goal

pub returns-in-Ok-clause-passes : goal.returns-in-Ok-clause-passes
returns-in-Ok-clause-passes c = λ p h.
    c.in-Ok.ensures.converses p
    (subst (λ (w : Http). Converses p w) (sym c.deref_mut.ensures.value) (subst (PassesIn p) c.in-Http.is h))
