use Rattle.warp_replica.specs.Answered.{facts_of}
use Rattle.warp_machine.specs.Moving.{Moved}
use Rattle.warp_machine.proofs.machine.Machine.send_ticks.Given as goal

abbrev pub invariant-loop : goal.invariant-loop
invariant-loop g l = Moved (facts_of g.T.Timeline.settled g.T.Timeline.refused g.T.Timeline.floor g.T.Timeline.SLACK) l.initial.self.clients l.self.clients
