use Rattle.std.proofs.Common.{refl}
use Rattle.warp_replica.specs.Answered.{facts_of}
use Rattle.warp_machine.proofs.Joining.{joined, kept_on, stays}
use Rattle.warp_machine.proofs.machine.Machine.look_at_changes.Goals as goal

pub loop-init : goal.loop-init
loop-init g c = stays (facts_of g.T.Timeline.settled g.T.Timeline.refused g.T.Timeline.floor g.T.Timeline.SLACK) c.args.self.now.clients c.args.self.now.clients refl

pub loop-preserved : goal.loop-preserved
loop-preserved g c = kept_on (facts_of g.T.Timeline.settled g.T.Timeline.refused g.T.Timeline.floor g.T.Timeline.SLACK) c.args.self.now.clients c.changed.new.clients c.look_at_change.new.self.clients (joined (facts_of g.T.Timeline.settled g.T.Timeline.refused g.T.Timeline.floor g.T.Timeline.SLACK) c.args.self.now.clients c.loop.self.clients c.changed.new.clients c.loop.invariant c.changed.ensures) c.look_at_change.ensures

pub returns-in_default : goal.returns-in_default
returns-in_default g c = joined (facts_of g.T.Timeline.settled g.T.Timeline.refused g.T.Timeline.floor g.T.Timeline.SLACK) c.args.self.now.clients c.loop.self.clients c.changed.new.clients c.loop.invariant c.changed.ensures
