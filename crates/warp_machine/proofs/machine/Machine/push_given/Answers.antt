use Rattle.warp_replica.specs.Answered.{facts_of}
use Rattle.warp_machine.proofs.Joining.{joined}
use Rattle.warp_machine.proofs.machine.Machine.push_given.Goals as goal

pub returns : goal.returns
returns g c = joined (facts_of g.T.Timeline.settled g.T.Timeline.refused g.T.Timeline.floor g.T.Timeline.SLACK) c.args.self.now.clients c.push_behind.new.self.clients c.push_frozen.new.self.clients (joined (facts_of g.T.Timeline.settled g.T.Timeline.refused g.T.Timeline.floor g.T.Timeline.SLACK) c.args.self.now.clients c.push_left_out.new.self.clients c.push_behind.new.self.clients c.push_left_out.ensures c.push_behind.ensures) c.push_frozen.ensures
