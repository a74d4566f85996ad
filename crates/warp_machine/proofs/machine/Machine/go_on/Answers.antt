use Rattle.std.proofs.Common.{refl}
use Rattle.warp_replica.specs.Answered.{facts_of}
use Rattle.warp_machine.specs.Moving.{IsPassing}
use Rattle.warp_machine.proofs.Joining.{joined_with, stays_with}
use Rattle.warp_machine.proofs.machine.Machine.go_on.Goals as goal

pub loop-init : goal.loop-init
loop-init g c = stays_with (facts_of g.T.Timeline.settled g.T.Timeline.refused g.T.Timeline.floor g.T.Timeline.SLACK) IsPassing c.args.self.now.clients c.args.self.now.clients refl

pub loop-preserved : goal.loop-preserved
loop-preserved g c = joined_with (facts_of g.T.Timeline.settled g.T.Timeline.refused g.T.Timeline.floor g.T.Timeline.SLACK) IsPassing c.args.self.now.clients c.loop.self.clients c.go_on_once.new.self.clients c.loop.invariant c.go_on_once.ensures

pub returns-then-not-is_due : goal.returns-then-not-is_due
returns-then-not-is_due g c = c.loop.invariant
