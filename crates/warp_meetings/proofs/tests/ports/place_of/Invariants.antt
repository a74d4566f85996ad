use Rattle.std.proofs.Common.{◌≡◌}
use Rattle.warp_meetings.proofs.tests.ports.place_of.Given as goal

abbrev pub invariant-loop-turn : goal.invariant-loop-turn
invariant-loop-turn g l = l.port.lane ≡ l.initial.port.lane
