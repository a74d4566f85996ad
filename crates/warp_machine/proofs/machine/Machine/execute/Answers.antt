use Rattle.warp_replica.specs.Answered.{facts_of}
use Rattle.warp_machine.proofs.Joining.{joined}
use Rattle.warp_machine.proofs.machine.Machine.execute.Goals as goal

pub returns : goal.returns
returns g c = joined (facts_of g.T.Timeline.settled g.T.Timeline.refused g.T.Timeline.floor g.T.Timeline.SLACK) c.args.self.now.clients c.make_steps.new.self.clients c.show.new.self.clients c.make_steps.ensures c.show.ensures
