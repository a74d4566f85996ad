use Rattle.warp_replica.specs.Answered.{facts_of}
use Rattle.warp_machine.proofs.Joining.{kept_on}
use Rattle.warp_machine.proofs.machine.Machine.work_counted.Goals as goal

pub returns : goal.returns
returns g c = kept_on (facts_of g.T.Timeline.settled g.T.Timeline.refused g.T.Timeline.floor g.T.Timeline.SLACK) c.args.self.now.clients c.answer_each-worked.new.self.clients c.end_noted.new.self.clients c.answer_each-worked.ensures c.end_noted.ensures
