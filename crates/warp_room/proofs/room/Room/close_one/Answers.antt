use Rattle.warp_keep.specs.Keeping.{keeps}
use Rattle.warp_replica.specs.Answered.{facts_of}
use Rattle.warp_room.proofs.OwnLines.{closed_after, closing_may, may_here, unsaid_after}
use Rattle.warp_room.proofs.room.Room.close_one.Goals as goal

pub say-requires : goal.say-requires
say-requires g c =
    let r = c.args.self.now in
    may_here c.closing.new.self r c.in-Ok.«record» c.closing.ensures.same
    (closing_may (keeps r.keeping) r.replica.program r.replica.records c.args.origin c.args.tag c.in-Ok.«record» c.requires.kept c.in-Ok.ensures.closes)

pub returns-in-Err-clause-err : goal.returns-in-Err-clause-err
returns-in-Err-clause-err g c =
    unsaid_after (facts_of g.T.Timeline.settled g.T.Timeline.refused g.T.Timeline.floor g.T.Timeline.SLACK) c.args.self.now
    c.closing.new.self c.say.new.self c.in-Ok.«record» c.in-Err.refusal c.closing.ensures.same c.in-Err.ensures

pub returns-in-Ok-say-clause-closed : goal.returns-in-Ok-say-clause-closed
returns-in-Ok-say-clause-closed g c =
    closed_after (facts_of g.T.Timeline.settled g.T.Timeline.refused g.T.Timeline.floor g.T.Timeline.SLACK) c.args.self.now
    c.closing.new.self c.say.new.self c.in-Ok.«record» c.args.origin c.args.tag _ c.closing.ensures.same c.in-Ok.ensures.closes c.in-Ok-say.ensures
