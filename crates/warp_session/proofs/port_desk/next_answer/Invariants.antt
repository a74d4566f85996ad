-- No answer was fetched yet.
use Rattle.std.proofs.Common.{◌≡◌}
use Rattle.warp_session.proofs.port_desk.next_answer.Given as goal

abbrev pub invariant-loop : goal.invariant-loop
invariant-loop g l = l.port ≡ l.initial.port
