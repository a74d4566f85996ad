use Rattle.std.proofs.Common.{◌≡◌}
use Rattle.warp_lanes.proofs.tests.boards.take_announced.Given as goal

abbrev pub invariant-loop-place : goal.invariant-loop-place
invariant-loop-place g l = l.engine.writer ≡ l.initial.engine.writer
