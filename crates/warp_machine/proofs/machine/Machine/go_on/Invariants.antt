use Rattle.warp_replica.specs.Answered.{facts_of}
use Rattle.warp_machine.specs.Moving.{IsPassing, MovedWith}
use Rattle.warp_machine.proofs.machine.Machine.go_on.Given as goal

abbrev pub invariant-loop : goal.invariant-loop
invariant-loop g l = MovedWith (facts_of g.T.Timeline.settled g.T.Timeline.refused g.T.Timeline.floor g.T.Timeline.SLACK) IsPassing l.initial.self.clients l.self.clients
