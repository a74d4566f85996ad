use Rattle.std.proofs.Common.{inl, inr}
use Rattle.std.proofs.lemmas.Bool.{cases_Bool}
use Rattle.warp_replica.specs.Answered.{facts_of}
use Rattle.warp_clients.specs.Client.{Ended, Pushed}
use Rattle.warp_clients.specs.Steps.{Does}
use Rattle.warp_machine.proofs.Joining.{by_step, may_step}
use Rattle.warp_machine.proofs.moves.push.Goals as goal

pub returns : goal.returns
returns g c = elim (cases_Bool c.push.result) [
  | inl so ↦ by_step (facts_of g.T.Timeline.settled g.T.Timeline.refused g.T.Timeline.floor g.T.Timeline.SLACK) (Does c.args.who (Pushed c.args.len c.args.text.now)) c.args.clients.now c.push.new.self tt (c.push.ensures.yes so)
  | inr not_so ↦ may_step (facts_of g.T.Timeline.settled g.T.Timeline.refused g.T.Timeline.floor g.T.Timeline.SLACK) (Does c.args.who Ended) c.args.clients.now c.push.new.self tt (c.push.ensures.no not_so)
]
