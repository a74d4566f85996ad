use Rattle.warp_replica.specs.Answered.{facts_of}
use Rattle.warp_machine.proofs.Joining.{joined}
use Rattle.warp_machine.proofs.machine.Machine.is_silent.Goals as goal

pub returns : goal.returns
returns g c = joined (facts_of g.T.Timeline.settled g.T.Timeline.refused g.T.Timeline.floor g.T.Timeline.SLACK) c.args.self.now.clients c.ping.new.clients c.look_at_changes.new.self.clients c.ping.ensures c.look_at_changes.ensures
