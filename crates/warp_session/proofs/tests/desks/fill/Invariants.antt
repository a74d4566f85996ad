use Rattle.std.proofs.Common.{◌≡◌}
use Rattle.warp_session.proofs.tests.desks.fill.Given as goal

abbrev pub invariant-loop : goal.invariant-loop
invariant-loop g l = l.port.lane ≡ l.initial.port.lane
