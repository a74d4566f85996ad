-- the room so far, and the work of the statements that are left
use Rattle.std.proofs.Common.{◌≡◌, ◌+◌, drop}
use Rattle.warp_prog.specs.Work.{body_work}
use Rattle.warp_prog.specs.inner.Rule.{statements_tree}
use Rattle.warp_prog.proofs.limits.work.+room_after_body.Given as goal

abbrev pub invariant-room_after_body-loop-statement : goal.invariant-room_after_body-loop-statement
invariant-room_after_body-loop-statement l =
    l.left + body_work (statements_tree l.body) ≡ l.room + body_work (statements_tree (drop l.statement-index l.body))
