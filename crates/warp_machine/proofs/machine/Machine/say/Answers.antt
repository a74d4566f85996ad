use Rattle.std.proofs.Common.{refl}
use Rattle.warp_replica.specs.Answered.{facts_of}
use Rattle.warp_machine.specs.Keeping.{keepings}
use Rattle.warp_machine.proofs.Joining.{kept_on}
use Rattle.warp_machine.proofs.Keepings.{kept_none, kept_then}
use Rattle.warp_machine.proofs.machine.Machine.say.Goals as goal

pub returns : goal.returns
returns g c = kept_then (facts_of g.T.Timeline.settled g.T.Timeline.refused g.T.Timeline.floor g.T.Timeline.SLACK) (keepings c.args.self.now.conns) c.args.who c.args.self.now.clients c.feed-was_fed.new.self.clients c.go_on_said.new.self.clients c.feed-was_fed.ensures (kept_on (facts_of g.T.Timeline.settled g.T.Timeline.refused g.T.Timeline.floor g.T.Timeline.SLACK) c.feed-was_fed.new.self.clients c.ask-more.new.self.clients c.go_on_said.new.self.clients c.ask-more.ensures c.go_on_said.ensures)

pub returns-then-is_some : goal.returns-then-is_some
returns-then-is_some g c = kept_none (facts_of g.T.Timeline.settled g.T.Timeline.refused g.T.Timeline.floor g.T.Timeline.SLACK) (keepings c.args.self.now.conns) c.args.who c.args.self.now.clients c.args.self.now.clients refl
