use Rattle.std.proofs.Common.{◌∙◌, arith, subst}
use Rattle.std.proofs.lemmas.List.{length-drop}
use Rattle.warp_service.specs.Peers.{IsStopped}
use Rattle.warp_service.proofs.PeerSteps.{hears_joined, take_rest}
use Rattle.warp_service.proofs.peer.Peer.hear.Goals as goal

pub loop-count-preserved : goal.loop-count-preserved
loop-count-preserved c = (
  omega (arith, c.in-Some.ensures.0, c.in-Some.ensures.1, length-drop c.loop-count.heard c.args.bytes.now, c.loop-count.invariant.0),
  hears_joined c.args.self.now c.loop-count.self c.hear_line.new.self c.loop-count.invariant.1 c.hear_line.ensures.hears,
  c.hear_line.ensures.moment ∙ c.loop-count.invariant.2,
)

pub returns-clause-stops : goal.returns-clause-stops
returns-clause-stops c =
    subst (λ rest. IsStopped c.loop-count.self rest) (take_rest c.args.bytes.now c.loop-count.heard) c.in_default.ensures
