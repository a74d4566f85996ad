use Rattle.std.proofs.Common.{inl, inr}
use Rattle.warp_replica.specs.Answered.{facts_of}
use Rattle.warp_clients.specs.Client.{Lost, Quieted}
use Rattle.warp_clients.specs.Steps.{Does}
use Rattle.warp_machine.proofs.Joining.{by_step, stays}
use Rattle.warp_machine.proofs.moves.ping.Goals as goal

pub returns : goal.returns
returns g c = elim c.ping.ensures [
  | inl same ↦ stays (facts_of g.T.Timeline.settled g.T.Timeline.refused g.T.Timeline.floor g.T.Timeline.SLACK) c.args.clients.now c.ping.new.self same
  | inr (inl quiet) ↦ by_step (facts_of g.T.Timeline.settled g.T.Timeline.refused g.T.Timeline.floor g.T.Timeline.SLACK) (Does c.args.who Quieted) c.args.clients.now c.ping.new.self tt quiet
  | inr (inr lost) ↦ by_step (facts_of g.T.Timeline.settled g.T.Timeline.refused g.T.Timeline.floor g.T.Timeline.SLACK) (Does c.args.who Lost) c.args.clients.now c.ping.new.self tt lost
]
