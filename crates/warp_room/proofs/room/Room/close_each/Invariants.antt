-- The origins so far are closed, where they are kept.
use Rattle.std.proofs.Common.{◌≡◌}
use Rattle.warp_replica.specs.Answered.{facts_of}
use Rattle.warp_room.specs.Own.{ClosesFirst}
use Rattle.warp_room.proofs.room.Room.close_each.Given as goal

abbrev pub invariant-loop-origin : goal.invariant-loop-origin
invariant-loop-origin g l =
    ClosesFirst (facts_of g.T.Timeline.settled g.T.Timeline.refused g.T.Timeline.floor g.T.Timeline.SLACK) l.tag l.origin l.initial.self l.self
    × (l.self.replica.program ≡ l.initial.self.replica.program)
