use Rattle.std.proofs.Common.{refl}
use Rattle.warp_replica.specs.Answered.{facts_of}
use Rattle.warp_machine.specs.Moving.{IsPassing}
use Rattle.warp_machine.proofs.Joining.{joined_with, moved_with, passing, stays_with, with_on}
use Rattle.warp_machine.proofs.machine.Machine.turn.Goals as goal

pub returns : goal.returns
returns g c = with_on (facts_of g.T.Timeline.settled g.T.Timeline.refused g.T.Timeline.floor g.T.Timeline.SLACK) IsPassing c.args.self.now.clients c.hand_on.new.self.clients c.end_turn.new.self.clients (joined_with (facts_of g.T.Timeline.settled g.T.Timeline.refused g.T.Timeline.floor g.T.Timeline.SLACK) IsPassing c.args.self.now.clients c.work-worked.new.self.clients c.hand_on.new.self.clients (joined_with (facts_of g.T.Timeline.settled g.T.Timeline.refused g.T.Timeline.floor g.T.Timeline.SLACK) IsPassing c.args.self.now.clients c.begin_turn.new.self.clients c.work-worked.new.self.clients (passing (facts_of g.T.Timeline.settled g.T.Timeline.refused g.T.Timeline.floor g.T.Timeline.SLACK) c.args.self.now.clients c.begin_turn.new.self.clients c.begin_turn.ensures) (moved_with (facts_of g.T.Timeline.settled g.T.Timeline.refused g.T.Timeline.floor g.T.Timeline.SLACK) IsPassing c.begin_turn.new.self.clients c.work-worked.new.self.clients c.work-worked.ensures)) c.hand_on.ensures) c.end_turn.ensures

pub returns-then-self : goal.returns-then-self
returns-then-self g c = stays_with (facts_of g.T.Timeline.settled g.T.Timeline.refused g.T.Timeline.floor g.T.Timeline.SLACK) IsPassing c.args.self.now.clients c.args.self.now.clients refl
