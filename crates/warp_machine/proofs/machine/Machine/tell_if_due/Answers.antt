use Rattle.warp_replica.specs.Answered.{facts_of}
use Rattle.warp_machine.proofs.Joining.{kept_first, stays}
use Rattle.warp_machine.proofs.machine.Machine.tell_if_due.Goals as goal

pub returns-then-not-is_to_tell : goal.returns-then-not-is_to_tell
returns-then-not-is_to_tell g c = stays (facts_of g.T.Timeline.settled g.T.Timeline.refused g.T.Timeline.floor g.T.Timeline.SLACK) c.args.self.now.clients c.is_to_tell.new.self.clients c.is_to_tell.ensures

pub returns : goal.returns
returns g c = kept_first (facts_of g.T.Timeline.settled g.T.Timeline.refused g.T.Timeline.floor g.T.Timeline.SLACK) c.args.self.now.clients c.is_to_tell.new.self.clients c.tell_watchers.new.self.clients c.is_to_tell.ensures c.tell_watchers.ensures
