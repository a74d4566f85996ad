use Rattle.std.proofs.Common.{refl}
use Rattle.warp_replica.specs.Answered.{facts_of}
use Rattle.warp_machine.specs.Moving.{IsHearing}
use Rattle.warp_machine.proofs.Joining.{joined_with, stays_with}
use Rattle.warp_machine.proofs.machine.Machine.stop_hearing_all.Goals as goal

pub loop-at-init : goal.loop-at-init
loop-at-init g c = stays_with (facts_of g.T.Timeline.settled g.T.Timeline.refused g.T.Timeline.floor g.T.Timeline.SLACK) IsHearing c.args.self.now.clients c.args.self.now.clients refl

pub loop-at-preserved : goal.loop-at-preserved
loop-at-preserved g c = joined_with (facts_of g.T.Timeline.settled g.T.Timeline.refused g.T.Timeline.floor g.T.Timeline.SLACK) IsHearing c.args.self.now.clients c.loop-at.self.clients c.stop_hearing_at.new.self.clients c.loop-at.invariant c.stop_hearing_at.ensures
