use Rattle.std.proofs.Common.{refl}
use Rattle.warp_replica.specs.Answered.{facts_of}
use Rattle.warp_machine.proofs.Joining.{joined, stays}
use Rattle.warp_machine.proofs.machine.Machine.tell_some.Goals as goal

pub loop-count-init : goal.loop-count-init
loop-count-init g c = stays (facts_of g.T.Timeline.settled g.T.Timeline.refused g.T.Timeline.floor g.T.Timeline.SLACK) c.args.self.now.clients c.args.self.now.clients refl

pub loop-count-preserved : goal.loop-count-preserved
loop-count-preserved g c = joined (facts_of g.T.Timeline.settled g.T.Timeline.refused g.T.Timeline.floor g.T.Timeline.SLACK) c.args.self.now.clients c.loop-count.self.clients c.tell_next.new.self.clients c.loop-count.invariant c.tell_next.ensures

pub returns-in_default : goal.returns-in_default
returns-in_default g c = joined (facts_of g.T.Timeline.settled g.T.Timeline.refused g.T.Timeline.floor g.T.Timeline.SLACK) c.args.self.now.clients c.loop-count.self.clients c.tell_next.new.self.clients c.loop-count.invariant c.tell_next.ensures

pub returns-then-not-is_told : goal.returns-then-not-is_told
returns-then-not-is_told g c = joined (facts_of g.T.Timeline.settled g.T.Timeline.refused g.T.Timeline.floor g.T.Timeline.SLACK) c.args.self.now.clients c.loop-count.self.clients c.tell_next.new.self.clients c.loop-count.invariant c.tell_next.ensures
