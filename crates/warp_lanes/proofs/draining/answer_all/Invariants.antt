use Rattle.std.proofs.Common.{◌≡◌, ◌+◌, ◌≤◌, ◌++◌, List, length, vec_capacity, vec_len}
use Rattle.rtrb.specs.Ring.{SameConsumer, known_items, received}
use Rattle.warp_record.specs.declared.line.Line.{Line}
use Rattle.warp_replica.specs.declared.answer.Answer.{Answer}
use Rattle.warp_replica.specs.Answered.{facts_of}
use Rattle.warp_lanes.specs.Engine.{AnswersAlone, AreAnswered}
use Rattle.warp_lanes.proofs.draining.answer_all.Given as goal

abbrev pub invariant-loop-alloc : goal.invariant-loop-alloc
invariant-loop-alloc g l =
    (lines : List Line) × (made : List Answer)
    × (known_items l.initial.commands ≡ lines ++ known_items l.commands)
    × (received l.commands ≡ received l.initial.commands ++ lines)
    × SameConsumer l.initial.commands l.commands
    × AreAnswered (AnswersAlone (facts_of g.T.Timeline.settled g.T.Timeline.refused g.T.Timeline.floor g.T.Timeline.SLACK))
    l.initial.replica lines made l.replica
    × (l.last.items ≡ l.initial.last.items ++ made)
    × (vec_len l.last + length (known_items l.commands) ≤ vec_capacity l.last)

abbrev pub decreases-loop-alloc : goal.decreases-loop-alloc
decreases-loop-alloc g l = length (known_items l.commands)
