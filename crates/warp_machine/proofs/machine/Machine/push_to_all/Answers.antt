use Rattle.std.proofs.Common.{refl}
use Rattle.warp_replica.specs.Answered.{facts_of}
use Rattle.warp_machine.proofs.Joining.{joined, stays}
use Rattle.warp_machine.proofs.machine.Machine.push_to_all.Goals as goal

pub loop-behind-init : goal.loop-behind-init
loop-behind-init g c = stays (facts_of g.T.Timeline.settled g.T.Timeline.refused g.T.Timeline.floor g.T.Timeline.SLACK) c.args.self.now.clients c.args.self.now.clients refl

pub loop-behind-preserved : goal.loop-behind-preserved
loop-behind-preserved g c = joined (facts_of g.T.Timeline.settled g.T.Timeline.refused g.T.Timeline.floor g.T.Timeline.SLACK) c.args.self.now.clients c.loop-behind.self.clients c.push_at.new.self.clients c.loop-behind.invariant c.push_at.ensures
