use Rattle.std.proofs.Common.{sym, subst}
use Rattle.warp_web.specs.declared.requests.Http.{Http}
use Rattle.warp_web.specs.Http.{Converses}
use Rattle.warp_web.specs.Wire.{MeansByHttp, PassesIn}
use Rattle.warp_web.proofs.wire.Wire.say.Goals as goal

pub returns-in-Http-clause-means : goal.returns-in-Http-clause-means
returns-in-Http-clause-means c = λ p h.
    subst (MeansByHttp c.said_over_http.result) c.deref.ensures
    (c.said_over_http.ensures.means p
    (subst (λ (w : Http). Converses p w) (sym c.deref.ensures) (subst (PassesIn p) c.in-Http.is h)))
