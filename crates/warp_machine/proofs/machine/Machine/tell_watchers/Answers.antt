use Rattle.warp_replica.specs.Answered.{facts_of}
use Rattle.warp_machine.proofs.Joining.{joined}
use Rattle.warp_machine.proofs.machine.Machine.tell_watchers.Goals as goal

pub returns : goal.returns
returns g c = joined (facts_of g.T.Timeline.settled g.T.Timeline.refused g.T.Timeline.floor g.T.Timeline.SLACK) c.args.self.now.clients c.hand_told.new.self.clients c.tell_pages.new.self.clients c.hand_told.ensures c.tell_pages.ensures
