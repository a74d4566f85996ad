use Rattle.warp_keep.specs.Keeping.{keeps}
use Rattle.warp_replica.specs.Answered.{facts_of}
use Rattle.warp_room.proofs.OwnLines.{all_here, counted_all_closes}
use Rattle.warp_room.proofs.Serving.{kept_same}
use Rattle.warp_room.proofs.room.Room.joint_closing.Goals as goal

pub invariant_of-self : goal.invariant_of-self
invariant_of-self g c =
    kept_same (facts_of g.T.Timeline.settled g.T.Timeline.refused g.T.Timeline.floor g.T.Timeline.SLACK) (keeps c.self.inside.keeping)
    c.self.inside.replica c.close_jointly.new.replica c.self.inside.made.items c.self.inside.shown c.self.inside.digest c.close_jointly.ensures.same
    c.self.invariant

pub returns-clause-closes : goal.returns-clause-closes
returns-clause-closes g c =
    let k = c.self.invariant.3 in
    let all = all_here _ _ c.self.view_is c.requires in
    rw (← c.self.view_is)
    (counted_all_closes c.self.inside.replica.program (keeps c.self.inside.keeping) k.first c.self.inside.replica.records c.args.tag all
    c.valid.ensures.allowed k.goes_on (λ origin declared. k.could origin declared (all origin declared))
    c.close_jointly.result c.close_jointly.ensures.counted)
