-- Some answers more were fetched.
use Rattle.std.proofs.Common.{◌≡◌, ◌-◌, List, ◌++◌, length}
use Rattle.warp_replica.specs.declared.answer.Answer.{Answer}
use Rattle.warp_session.proofs.port_desk.fetch_down_to.Given as goal

abbrev pub invariant-loop-port : goal.invariant-loop-port
invariant-loop-port g l = (front : List Answer) × (l.port ≡ record l.initial.port { fetched = l.initial.port.fetched ++ front })

abbrev pub decreases-loop-port : goal.decreases-loop-port
decreases-loop-port g l = length l.port.sent - length l.port.fetched
