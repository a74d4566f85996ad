use Rattle.std.proofs.Common.{◌≡◌, length}
use Rattle.warp_lanes.specs.Engine.{AreFresh}
use Rattle.warp_meetings.proofs.tests.ports.make_lanes.Given as goal

abbrev pub invariant-loop-number : goal.invariant-loop-number
invariant-loop-number g l = (length l.lanes.items ≡ l.number) × AreFresh l.lanes.items
