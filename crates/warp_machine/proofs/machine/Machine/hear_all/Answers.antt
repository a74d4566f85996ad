use Rattle.std.proofs.Common.{refl}
use Rattle.warp_replica.specs.Answered.{facts_of}
use Rattle.warp_machine.specs.Moving.{IsHearing}
use Rattle.warp_machine.proofs.Joining.{hearing, joined_with, stays_with}
use Rattle.warp_machine.proofs.machine.Machine.hear_all.Goals as goal

pub loop-init : goal.loop-init
loop-init g c = stays_with (facts_of g.T.Timeline.settled g.T.Timeline.refused g.T.Timeline.floor g.T.Timeline.SLACK) IsHearing c.args.self.now.clients c.args.self.now.clients refl

pub loop-preserved : goal.loop-preserved
loop-preserved g c = joined_with (facts_of g.T.Timeline.settled g.T.Timeline.refused g.T.Timeline.floor g.T.Timeline.SLACK) IsHearing c.args.self.now.clients c.loop.self.clients c.hear_one.new.self.clients c.loop.invariant (hearing (facts_of g.T.Timeline.settled g.T.Timeline.refused g.T.Timeline.floor g.T.Timeline.SLACK) c.in-Some.who c.hear_one.ensures.0 c.loop.self.clients c.hear_one.new.self.clients c.hear_one.ensures.2)

pub returns-in_default : goal.returns-in_default
returns-in_default g c = c.loop.invariant
