-- So many lines were answered, one after another.
use Rattle.std.proofs.Common.{◌-◌, ◌≡◌, ◌≤◌, List, length}
use Rattle.warp_replica.specs.Answered.{facts_of}
use Rattle.warp_room.specs.declared.answers.AnsweredLine.{AnsweredLine}
use Rattle.warp_room.specs.Steps.{ServeEach}
use Rattle.warp_room.proofs.room.Room.answer_some.Given as goal

abbrev pub invariant-loop-count : goal.invariant-loop-count
invariant-loop-count g l =
    (served : List AnsweredLine) × (length served ≡ l.count) × (l.count ≤ l.most_lines)
    × ServeEach (facts_of g.T.Timeline.settled g.T.Timeline.refused g.T.Timeline.floor g.T.Timeline.SLACK) served l.initial.self l.self

abbrev pub decreases-loop-count : goal.decreases-loop-count
decreases-loop-count g l = l.most_lines - l.count
