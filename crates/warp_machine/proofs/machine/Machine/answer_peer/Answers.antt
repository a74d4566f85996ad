use Rattle.std.proofs.Common.{refl}
use Rattle.warp_replica.specs.Answered.{facts_of}
use Rattle.warp_machine.specs.Moving.{IsPassing}
use Rattle.warp_machine.proofs.Joining.{stays_with, writing}
use Rattle.warp_machine.proofs.machine.Machine.answer_peer.Goals as goal

pub returns-in_default : goal.returns-in_default
returns-in_default g c = stays_with (facts_of g.T.Timeline.settled g.T.Timeline.refused g.T.Timeline.floor g.T.Timeline.SLACK) IsPassing c.args.self.now.clients c.args.self.now.clients refl

pub returns : goal.returns
returns g c = writing (facts_of g.T.Timeline.settled g.T.Timeline.refused g.T.Timeline.floor g.T.Timeline.SLACK) _ c.answer.ensures.0 c.args.self.now.clients c.answer.new.clients c.answer.ensures.1
