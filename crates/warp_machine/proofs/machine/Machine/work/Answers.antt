use Rattle.warp_replica.specs.Answered.{facts_of}
use Rattle.warp_machine.proofs.Joining.{joined}
use Rattle.warp_machine.proofs.machine.Machine.work.Goals as goal

pub returns-then-not-execute : goal.returns-then-not-execute
returns-then-not-execute g c = joined (facts_of g.T.Timeline.settled g.T.Timeline.refused g.T.Timeline.floor g.T.Timeline.SLACK) c.args.self.now.clients c.execute.new.self.clients c.lack.new.self.clients c.execute.ensures c.lack.ensures

pub returns : goal.returns
returns g c = joined (facts_of g.T.Timeline.settled g.T.Timeline.refused g.T.Timeline.floor g.T.Timeline.SLACK) c.args.self.now.clients c.execute.new.self.clients c.work_noted-2.new.self.clients c.execute.ensures c.work_noted-2.ensures
