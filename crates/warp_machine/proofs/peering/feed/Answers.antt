use Rattle.warp_replica.specs.Answered.{facts_of}
use Rattle.warp_machine.proofs.Joining.{hears_none, hears_one}
use Rattle.warp_machine.proofs.Keepings.{hears_same}
use Rattle.warp_machine.proofs.peering.feed.Goals as goal

pub returns-in_default : goal.returns-in_default
returns-in_default g c = hears_none (facts_of g.T.Timeline.settled g.T.Timeline.refused g.T.Timeline.floor g.T.Timeline.SLACK) c.args.followed.now.who c.args.followed.now.peer.handed c.args.clients.now c.hear.new.clients c.in_default.ensures.lost

pub returns-then-count-eq0 : goal.returns-then-count-eq0
returns-then-count-eq0 g c = hears_same (facts_of g.T.Timeline.settled g.T.Timeline.refused g.T.Timeline.floor g.T.Timeline.SLACK) c.args.followed.now.who c.lines.result.now c.args.followed.now.peer.handed c.args.clients.now c.hear.new.clients c.lines.ensures (hears_one (facts_of g.T.Timeline.settled g.T.Timeline.refused g.T.Timeline.floor g.T.Timeline.SLACK) c.args.followed.now.who c.lines.result.now c.in-Some.count c.args.clients.now c.hear.new.clients c.in-Some.ensures.heard)

pub returns : goal.returns
returns g c = hears_same (facts_of g.T.Timeline.settled g.T.Timeline.refused g.T.Timeline.floor g.T.Timeline.SLACK) c.args.followed.now.who c.lines.result.now c.args.followed.now.peer.handed c.args.clients.now c.hear.new.clients c.lines.ensures (hears_one (facts_of g.T.Timeline.settled g.T.Timeline.refused g.T.Timeline.floor g.T.Timeline.SLACK) c.args.followed.now.who c.lines.result.now c.in-Some.count c.args.clients.now c.hear.new.clients c.in-Some.ensures.heard)
