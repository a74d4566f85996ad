use Rattle.std.proofs.Common.{refl}
use Rattle.warp_replica.specs.Answered.{facts_of}
use Rattle.warp_machine.specs.Moving.{IsHearing}
use Rattle.warp_machine.proofs.Joining.{stays_with}
use Rattle.warp_machine.proofs.machine.Machine.operator.Goals as goal

pub returns-in-Err : goal.returns-in-Err
returns-in-Err g c = stays_with (facts_of g.T.Timeline.settled g.T.Timeline.refused g.T.Timeline.floor g.T.Timeline.SLACK) IsHearing c.args.self.now.clients c.args.self.now.clients refl
