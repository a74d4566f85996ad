use Rattle.std.proofs.Common.{refl}
use Rattle.warp_replica.specs.Answered.{facts_of}
use Rattle.warp_machine.specs.Moving.{IsHearing}
use Rattle.warp_machine.proofs.Joining.{stays_with, with_first, with_on}
use Rattle.warp_machine.proofs.machine.Machine.end_in_order.Goals as goal

pub returns : goal.returns
returns g c = with_first (facts_of g.T.Timeline.settled g.T.Timeline.refused g.T.Timeline.floor g.T.Timeline.SLACK) IsHearing c.args.self.now.clients c.tell.new.self.clients c.look_at_end.new.self.clients c.tell.ensures (with_on (facts_of g.T.Timeline.settled g.T.Timeline.refused g.T.Timeline.floor g.T.Timeline.SLACK) IsHearing c.tell.new.self.clients c.stop_hearing_all.new.self.clients c.look_at_end.new.self.clients c.stop_hearing_all.ensures c.look_at_end.ensures)

pub returns-then-is_some : goal.returns-then-is_some
returns-then-is_some g c = stays_with (facts_of g.T.Timeline.settled g.T.Timeline.refused g.T.Timeline.floor g.T.Timeline.SLACK) IsHearing c.args.self.now.clients c.args.self.now.clients refl
