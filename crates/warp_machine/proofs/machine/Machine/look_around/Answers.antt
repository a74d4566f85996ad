use Rattle.warp_replica.specs.Answered.{facts_of}
use Rattle.warp_machine.proofs.Joining.{kept_on}
use Rattle.warp_machine.proofs.machine.Machine.look_around.Goals as goal

pub returns : goal.returns
returns g c = kept_on (facts_of g.T.Timeline.settled g.T.Timeline.refused g.T.Timeline.floor g.T.Timeline.SLACK) c.args.self.now.clients c.look_after_clients.new.self.clients c.note_second.new.self.clients c.look_after_clients.ensures c.note_second.ensures
