use Rattle.warp_replica.specs.Answered.{facts_of}
use Rattle.warp_machine.proofs.Joining.{kept_first, stays}
use Rattle.warp_machine.proofs.machine.Machine.tell_next.Goals as goal

pub returns-in_default : goal.returns-in_default
returns-in_default g c = stays (facts_of g.T.Timeline.settled g.T.Timeline.refused g.T.Timeline.floor g.T.Timeline.SLACK) c.args.self.now.clients c.next_asked.new.self.clients c.next_asked.ensures

pub returns : goal.returns
returns g c = kept_first (facts_of g.T.Timeline.settled g.T.Timeline.refused g.T.Timeline.floor g.T.Timeline.SLACK) c.args.self.now.clients c.next_asked.new.self.clients c.tell_one.new.self.clients c.next_asked.ensures c.tell_one.ensures
