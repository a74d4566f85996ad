use Rattle.std.proofs.Common.{inl, inr}
use Rattle.warp_replica.specs.Answered.{facts_of}
use Rattle.std.proofs.lemmas.Bool.{cases_Bool}
use Rattle.warp_clients.specs.Steps.{Leaves}
use Rattle.warp_machine.proofs.Joining.{by_step, stays}
use Rattle.warp_machine.proofs.moves.leave.Goals as goal

pub returns-clause-moved : goal.returns-clause-moved
returns-clause-moved g c = elim (cases_Bool c.leave.result) [
  | inl so ↦ by_step (facts_of g.T.Timeline.settled g.T.Timeline.refused g.T.Timeline.floor g.T.Timeline.SLACK) (Leaves c.args.who) c.args.clients.now c.leave.new.self tt (c.leave.ensures.yes so)
  | inr not_so ↦ stays (facts_of g.T.Timeline.settled g.T.Timeline.refused g.T.Timeline.floor g.T.Timeline.SLACK) c.args.clients.now c.leave.new.self (c.leave.ensures.no not_so)
]

pub returns-clause-leaves : goal.returns-clause-leaves
returns-clause-leaves g c = elim (cases_Bool c.leave.result) [
  | inl so ↦ inr (record { does = c.leave.ensures.yes so })
  | inr not_so ↦ inl (c.leave.ensures.no not_so)
]
