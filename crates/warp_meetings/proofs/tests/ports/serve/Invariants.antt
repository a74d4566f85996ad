use Rattle.std.proofs.Common.{◌≡◌}
use Rattle.warp_lanes.specs.Engine.{ids_of}
use Rattle.warp_meetings.proofs.tests.ports.serve.Given as goal

abbrev pub invariant-loop-turn : goal.invariant-loop-turn
invariant-loop-turn g l = ids_of l.engine.lanes ≡ ids_of l.initial.engine.lanes
