use Rattle.warp_replica.specs.Answered.{facts_of}
use Rattle.warp_clients.specs.Steps.{SomeRun}
use Rattle.warp_clients.proofs.clients.Clients.tell_counted.Given as goal

abbrev pub invariant-loop : goal.invariant-loop
invariant-loop g l = SomeRun (facts_of g.T.Timeline.settled g.T.Timeline.refused g.T.Timeline.floor g.T.Timeline.SLACK) l.initial.self l.self
