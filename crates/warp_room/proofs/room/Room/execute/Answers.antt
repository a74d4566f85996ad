use Rattle.warp_keep.specs.Keeping.{keeps}
use Rattle.warp_replica.specs.Answered.{facts_of}
use Rattle.warp_room.proofs.Serving.{kept_on}
use Rattle.warp_room.proofs.room.Room.execute.Goals as goal

pub invariant_of-self : goal.invariant_of-self
invariant_of-self g c =
    kept_on (facts_of g.T.Timeline.settled g.T.Timeline.refused g.T.Timeline.floor g.T.Timeline.SLACK) (keeps c.self.inside.keeping)
    c.self.inside.replica c.settle_some.new.self c.self.inside.made.items c.self.inside.shown c.self.inside.digest c.settle_some.ensures.program
    c.settle_some.ensures.records c.self.invariant
