use Rattle.std.proofs.Common.{◌≡◌, length}
use Rattle.warp_lanes.specs.Engine.{ids_of}
use Rattle.warp_meetings.proofs.tests.ports.serve_all.Given as goal

abbrev pub invariant-loop-lane : goal.invariant-loop-lane
invariant-loop-lane g l =
    (ids_of l.engine.lanes ≡ ids_of l.initial.engine.lanes)
    × (length l.engine.lanes ≡ length l.initial.engine.lanes)
