use Rattle.std.proofs.Common.{refl}
use Rattle.warp_replica.specs.Answered.{facts_of}
use Rattle.warp_machine.proofs.Joining.{joined, stays}
use Rattle.warp_machine.proofs.machine.Machine.tell_pages.Goals as goal

pub loop-init : goal.loop-init
loop-init g c = stays (facts_of g.T.Timeline.settled g.T.Timeline.refused g.T.Timeline.floor g.T.Timeline.SLACK) c.args.self.now.clients c.args.self.now.clients refl

pub loop-preserved : goal.loop-preserved
loop-preserved g c = joined (facts_of g.T.Timeline.settled g.T.Timeline.refused g.T.Timeline.floor g.T.Timeline.SLACK) c.args.self.now.clients c.tell_some.new.self.clients c.hand_told.new.self.clients (joined (facts_of g.T.Timeline.settled g.T.Timeline.refused g.T.Timeline.floor g.T.Timeline.SLACK) c.args.self.now.clients c.loop.self.clients c.tell_some.new.self.clients c.loop.invariant c.tell_some.ensures) c.hand_told.ensures

pub returns-then-not-tell_some : goal.returns-then-not-tell_some
returns-then-not-tell_some g c = joined (facts_of g.T.Timeline.settled g.T.Timeline.refused g.T.Timeline.floor g.T.Timeline.SLACK) c.args.self.now.clients c.loop.self.clients c.tell_some.new.self.clients c.loop.invariant c.tell_some.ensures
