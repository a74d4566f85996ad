use Rattle.std.proofs.Common.{refl, inl}
use Rattle.warp_keep.specs.Keeping.{keeps}
use Rattle.warp_replica.specs.Answered.{facts_of}
use Rattle.warp_room.proofs.OwnLines.{all_after, joint_may, may_here, none_closed, unsaid_after}
use Rattle.warp_room.proofs.room.Room.close_all.Goals as goal

pub returns-in_default-clause-err : goal.returns-in_default-clause-err
returns-in_default-clause-err g c =
    let facts = facts_of g.T.Timeline.settled g.T.Timeline.refused g.T.Timeline.floor g.T.Timeline.SLACK in
    (0, c.args.self.now, none_closed facts c.args.tag c.args.self.now, inl (refl, c.joint_closing.ensures.same))

pub say-requires : goal.say-requires
say-requires g c =
    let r = c.args.self.now in
    may_here c.joint_closing.new.self r c.in-Ok.«record» c.joint_closing.ensures.same
    (joint_may (keeps r.keeping) r.replica.program r.replica.records c.args.tag c.in-Ok.«record» c.requires.all c.requires.some c.in-Ok.ensures.closes)

pub returns-in-Err-clause-err : goal.returns-in-Err-clause-err
returns-in-Err-clause-err g c =
    let facts = facts_of g.T.Timeline.settled g.T.Timeline.refused g.T.Timeline.floor g.T.Timeline.SLACK in (
      0,
      c.args.self.now,
      none_closed facts c.args.tag c.args.self.now,
      unsaid_after facts c.args.self.now c.joint_closing.new.self c.say.new.self c.in-Ok.«record» c.in-Err.refusal c.joint_closing.ensures.same
          c.in-Err.ensures,
    )

pub returns-in-Ok-say-clause-closed : goal.returns-in-Ok-say-clause-closed
returns-in-Ok-say-clause-closed g c =
    all_after (facts_of g.T.Timeline.settled g.T.Timeline.refused g.T.Timeline.floor g.T.Timeline.SLACK) c.args.self.now
    c.joint_closing.new.self c.say.new.self c.in-Ok.«record» c.args.tag _ c.joint_closing.ensures.same c.in-Ok.ensures.closes
    c.in-Ok-say.ensures
