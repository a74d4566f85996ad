use Rattle.std.proofs.Common.{refl}
use Rattle.warp_replica.specs.Answered.{facts_of}
use Rattle.warp_machine.proofs.Joining.{joined, kept_first, kept_on, stays}
use Rattle.warp_machine.proofs.machine.Machine.send_ticks.Goals as goal

pub loop-init : goal.loop-init
loop-init g c = stays (facts_of g.T.Timeline.settled g.T.Timeline.refused g.T.Timeline.floor g.T.Timeline.SLACK) c.args.self.now.clients c.args.self.now.clients refl

pub loop-preserved : goal.loop-preserved
loop-preserved g c =
    let facts = facts_of g.T.Timeline.settled g.T.Timeline.refused g.T.Timeline.floor g.T.Timeline.SLACK in
    joined facts c.args.self.now.clients c.loop.self.clients c.send_tick.new.self.clients c.loop.invariant
    (kept_first facts c.loop.self.clients c.take_tick.new.self.clients c.send_tick.new.self.clients c.take_tick.ensures c.send_tick.ensures)

pub returns-in_default : goal.returns-in_default
returns-in_default g c =
    kept_on (facts_of g.T.Timeline.settled g.T.Timeline.refused g.T.Timeline.floor g.T.Timeline.SLACK) c.args.self.now.clients c.loop.self.clients c.take_tick.new.self.clients c.loop.invariant c.take_tick.ensures
