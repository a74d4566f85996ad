use Rattle.std.proofs.Common.{◌-◌, ap, ◌∙◌, arith}
use Rattle.http_server.specs.Connection.{history}
use Rattle.http_server.specs.History.{History, after_sent}
use Rattle.warp_web.proofs.HttpLemmas.{sent_piece}
use Rattle.warp_web.proofs.requests.send.Goals as goal

pub loop-left-preserved : goal.loop-left-preserved
loop-left-preserved c = (
  ap (λ (h : History). after_sent h (c.loop-left.left - c.min-some.result)) c.sent.ensures.history
      ∙ sent_piece (history c.loop-left.connection) c.min-some.result c.loop-left.left (omega (arith, c.min-some.ensures))
      ∙ c.loop-left.invariant.0,
  c.sent.ensures.config ∙ c.loop-left.invariant.1,
)
