use Rattle.std.proofs.Common.{refl}
use Rattle.warp_replica.specs.Answered.{facts_of}
use Rattle.warp_machine.specs.Moving.{IsPassing}
use Rattle.warp_machine.proofs.Joining.{hearing, passing, stays_with}
use Rattle.warp_machine.proofs.machine.Machine.feed_from.Goals as goal

pub returns-in_default : goal.returns-in_default
returns-in_default g c = stays_with (facts_of g.T.Timeline.settled g.T.Timeline.refused g.T.Timeline.floor g.T.Timeline.SLACK) IsPassing c.args.self.now.clients c.args.self.now.clients refl

pub returns-then-not-feed : goal.returns-then-not-feed
returns-then-not-feed g c = passing (facts_of g.T.Timeline.settled g.T.Timeline.refused g.T.Timeline.floor g.T.Timeline.SLACK) c.args.self.now.clients c.feed.new.clients (hearing (facts_of g.T.Timeline.settled g.T.Timeline.refused g.T.Timeline.floor g.T.Timeline.SLACK) _ _ c.args.self.now.clients c.feed.new.clients c.feed.ensures)

pub returns : goal.returns
returns g c = passing (facts_of g.T.Timeline.settled g.T.Timeline.refused g.T.Timeline.floor g.T.Timeline.SLACK) c.args.self.now.clients c.feed.new.clients (hearing (facts_of g.T.Timeline.settled g.T.Timeline.refused g.T.Timeline.floor g.T.Timeline.SLACK) _ _ c.args.self.now.clients c.feed.new.clients c.feed.ensures)
