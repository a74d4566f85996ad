use Rattle.std.proofs.Common.{refl}
use Rattle.warp_replica.specs.Answered.{facts_of}
use Rattle.warp_machine.proofs.Joining.{joined, stays}
use Rattle.warp_machine.proofs.machine.Machine.look_after_clients.Goals as goal

pub loop-at-init : goal.loop-at-init
loop-at-init g c = stays (facts_of g.T.Timeline.settled g.T.Timeline.refused g.T.Timeline.floor g.T.Timeline.SLACK) c.args.self.now.clients c.args.self.now.clients refl

pub loop-at-preserved : goal.loop-at-preserved
loop-at-preserved g c = joined (facts_of g.T.Timeline.settled g.T.Timeline.refused g.T.Timeline.floor g.T.Timeline.SLACK) c.args.self.now.clients c.loop-at.self.clients c.look_after_at.new.self.clients c.loop-at.invariant c.look_after_at.ensures
