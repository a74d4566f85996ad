use Rattle.std.proofs.Common.{inl, refl}
use Rattle.warp_replica.specs.Answered.{facts_of}
use Rattle.warp_machine.proofs.Joining.{stays}
use Rattle.warp_machine.proofs.peering.answer.Goals as goal

pub returns-then-count-eq0 : goal.returns-then-count-eq0
returns-then-count-eq0 g c = (0, inl (stays (facts_of g.T.Timeline.settled g.T.Timeline.refused g.T.Timeline.floor g.T.Timeline.SLACK) c.args.clients.now c.args.clients.now refl))

pub returns : goal.returns
returns g c = (c.answers-count.result, c.written.ensures)
