-- what is left is the room less the schedulings so far
use Rattle.std.proofs.Common.{◌≡◌, ◌+◌, drop}
use Rattle.warp_body.specs.Effect.{statements_of, schedules_of}
use Rattle.warp_body.proofs.stmt.+room_left_stmt.Given as goal

abbrev pub invariant-room_left-loop-stmt : goal.invariant-room_left-loop-stmt
invariant-room_left-loop-stmt l = l.left + schedules_of (statements_of l.body) ≡ l.room + schedules_of (statements_of (drop l.stmt-index l.body))
