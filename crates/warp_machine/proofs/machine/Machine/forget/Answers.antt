use Rattle.warp_replica.specs.Answered.{facts_of}
use Rattle.warp_machine.proofs.Joining.{leaves_on}
use Rattle.warp_machine.proofs.machine.Machine.forget.Goals as goal

pub returns-clause-leaves : goal.returns-clause-leaves
returns-clause-leaves g c = leaves_on (facts_of g.T.Timeline.settled g.T.Timeline.refused g.T.Timeline.floor g.T.Timeline.SLACK) c.args.who c.args.self.now.clients c.leave-3.new.clients c.look_at_end.new.self.clients c.leave-3.ensures.leaves c.look_at_end.ensures
