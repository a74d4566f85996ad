use Rattle.std.proofs.Common.{◌≡◌, ◌⊎◌, ◌+◌, ◌-◌, ◌≤◌, ◌++◌, [], List, length}
use Rattle.std.specs.Prelude.{IsTrue}
use Rattle.rtrb.specs.Ring.{SameConsumer, known_items, received}
use Rattle.warp_record.specs.declared.line.Line.{Line}
use Rattle.warp_replica.specs.Answered.{facts_of}
use Rattle.warp_lanes.specs.Engine.{AnswersLine, AreAnswered}
use Rattle.warp_lanes.specs.Publish.{IsOnceEnough, IsShown, KeepsBoard}
use Rattle.warp_lanes.proofs.visiting.answer_first.Given as goal

abbrev pub invariant-lines : goal.invariant-lines
invariant-lines g l =
    (lines : List Line)
    × (received l.commands ≡ received l.initial.commands ++ lines)
    × SameConsumer l.initial.commands l.commands
    × AreAnswered (AnswersLine (facts_of g.T.Timeline.settled g.T.Timeline.refused g.T.Timeline.floor g.T.Timeline.SLACK))
    l.initial.replica lines l.unsent.items l.replica
    × KeepsBoard l.replica.program l.replica.records l.writer l.known_rows
    × (length l.unsent.items ≤ l.count)
    × (l.count ≤ length l.unsent.items + length (known_items l.commands))
    × ((l.unsent.items ≡ []) ⊎ IsOnceEnough l.replica.program l.replica.records l.unsent.items l.writer)
    × (IsTrue l.is_shown → IsShown l.replica.program l.replica.records l.writer)

abbrev pub decreases-lines : goal.decreases-lines
decreases-lines g l = l.count - length l.unsent.items
