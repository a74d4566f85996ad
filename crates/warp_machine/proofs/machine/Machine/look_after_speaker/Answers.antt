use Rattle.warp_replica.specs.Answered.{facts_of}
use Rattle.warp_machine.proofs.Joining.{kept_on}
use Rattle.warp_machine.proofs.machine.Machine.look_after_speaker.Goals as goal

pub returns : goal.returns
returns g c = kept_on (facts_of g.T.Timeline.settled g.T.Timeline.refused g.T.Timeline.floor g.T.Timeline.SLACK) c.args.self.now.clients c.is_late_or_silent-is_late.new.self.clients c.close_if.new.self.clients c.is_late_or_silent-is_late.ensures c.close_if.ensures
