use Rattle.warp_replica.specs.Answered.{facts_of}
use Rattle.warp_machine.specs.Moving.{IsFollowing}
use Rattle.warp_machine.proofs.Joining.{joined_with, moved_with}
use Rattle.warp_machine.proofs.KeptRooms.{keeps_on}
use Rattle.warp_machine.proofs.machine.Machine.follow_and_tell.Goals as goal

pub returns-clause-keeps : goal.returns-clause-keeps
returns-clause-keeps g c =
    let facts = facts_of g.T.Timeline.settled g.T.Timeline.refused g.T.Timeline.floor g.T.Timeline.SLACK in
    keeps_on facts IsFollowing c.args.self.now.clients c.tell_clock.new.self.clients c.what_is_told.ensures.room c.kept_stays.ensures.same
    (joined_with facts IsFollowing c.args.self.now.clients c.follow_all.new.self.clients c.tell_clock.new.self.clients c.in_ok-follow_all.ensures
    (moved_with facts IsFollowing c.follow_all.new.self.clients c.tell_clock.new.self.clients c.tell_clock.ensures.moved))

pub returns-clause-moved : goal.returns-clause-moved
returns-clause-moved g c =
    let facts = facts_of g.T.Timeline.settled g.T.Timeline.refused g.T.Timeline.floor g.T.Timeline.SLACK in
    joined_with facts IsFollowing c.args.self.now.clients c.follow_all.new.self.clients c.tell_clock.new.self.clients c.in_ok-follow_all.ensures
    (moved_with facts IsFollowing c.follow_all.new.self.clients c.tell_clock.new.self.clients c.tell_clock.ensures.moved)
