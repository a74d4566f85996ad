-- the room so far, and the schedulings in the statements that are left
use Rattle.std.proofs.Common.{◌≡◌, ◌+◌, drop}
use Rattle.warp_prog.specs.Limits.{body_wishes}
use Rattle.warp_prog.specs.inner.Rule.{statements_tree}
use Rattle.warp_prog.proofs.limits.body.+room_for_wishes.Given as goal

abbrev pub invariant-room_for_wishes-loop-statement : goal.invariant-room_for_wishes-loop-statement
invariant-room_for_wishes-loop-statement l =
    l.left + body_wishes (statements_tree l.body) ≡ l.room + body_wishes (statements_tree (drop l.statement-index l.body))
