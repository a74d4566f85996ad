use Rattle.warp_keep.specs.Keeping.{keeps}
use Rattle.warp_room.proofs.OwnLines.{counted_closes, declared_here, kept_here}
use Rattle.warp_room.proofs.Serving.{kept_same}
use Rattle.warp_replica.specs.Answered.{facts_of}
use Rattle.warp_room.proofs.room.Room.closing.Goals as goal

pub invariant_of-self : goal.invariant_of-self
invariant_of-self g c =
    kept_same (facts_of g.T.Timeline.settled g.T.Timeline.refused g.T.Timeline.floor g.T.Timeline.SLACK) (keeps c.self.inside.keeping)
    c.self.inside.replica c.close.new.replica c.self.inside.made.items c.self.inside.shown c.self.inside.digest c.close.ensures.same c.self.invariant

pub returns-clause-closes : goal.returns-clause-closes
returns-clause-closes g c =
    let k = c.self.invariant.3 in
    let kept = kept_here _ _ c.args.origin c.self.view_is c.requires.kept in
    let declared = declared_here _ _ c.args.origin c.self.view_is c.requires.declared in
    rw (← c.self.view_is)
    (counted_closes (keeps c.self.inside.keeping) k.first c.self.inside.replica.records c.args.origin c.args.tag
    kept k.goes_on (k.could c.args.origin declared kept) c.close.result c.close.ensures.counted)
