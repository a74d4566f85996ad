use Rattle.warp_replica.specs.Answered.{facts_of}
use Rattle.warp_machine.proofs.Joining.{joined}
use Rattle.warp_machine.proofs.machine.Machine.push.Goals as goal

pub returns-then-unread-gt-MOST_PUSHED : goal.returns-then-unread-gt-MOST_PUSHED
returns-then-unread-gt-MOST_PUSHED g c = joined (facts_of g.T.Timeline.settled g.T.Timeline.refused g.T.Timeline.floor g.T.Timeline.SLACK) c.args.self.now.clients c.push.new.clients c.give_up.new.self.clients c.push.ensures c.give_up.ensures
