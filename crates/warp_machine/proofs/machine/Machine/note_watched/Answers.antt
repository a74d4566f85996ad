use Rattle.std.proofs.Common.{refl}
use Rattle.warp_replica.specs.Answered.{facts_of}
use Rattle.warp_machine.proofs.Joining.{joined, kept_on, stays}
use Rattle.warp_machine.proofs.machine.Machine.note_watched.Goals as goal

pub loop-init : goal.loop-init
loop-init g c = stays (facts_of g.T.Timeline.settled g.T.Timeline.refused g.T.Timeline.floor g.T.Timeline.SLACK) c.args.self.now.clients c.args.self.now.clients refl

pub loop-preserved : goal.loop-preserved
loop-preserved g c = joined (facts_of g.T.Timeline.settled g.T.Timeline.refused g.T.Timeline.floor g.T.Timeline.SLACK) c.args.self.now.clients c.watched.new.self c.note_one.new.self.clients (kept_on (facts_of g.T.Timeline.settled g.T.Timeline.refused g.T.Timeline.floor g.T.Timeline.SLACK) c.args.self.now.clients c.loop.self.clients c.watched.new.self c.loop.invariant c.watched.ensures) c.note_one.ensures

pub returns-in_default : goal.returns-in_default
returns-in_default g c = kept_on (facts_of g.T.Timeline.settled g.T.Timeline.refused g.T.Timeline.floor g.T.Timeline.SLACK) c.args.self.now.clients c.loop.self.clients c.watched.new.self c.loop.invariant c.watched.ensures
