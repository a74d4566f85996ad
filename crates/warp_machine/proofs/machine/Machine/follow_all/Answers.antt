use Rattle.std.proofs.Common.{refl}
use Rattle.warp_replica.specs.Answered.{facts_of}
use Rattle.warp_machine.specs.Moving.{IsFollowing}
use Rattle.warp_machine.proofs.Joining.{joined_with, stays_with}
use Rattle.warp_machine.proofs.machine.Machine.follow_all.Goals as goal

pub loop-peer-init : goal.loop-peer-init
loop-peer-init g c = stays_with (facts_of g.T.Timeline.settled g.T.Timeline.refused g.T.Timeline.floor g.T.Timeline.SLACK) IsFollowing c.args.self.now.clients c.args.self.now.clients refl

pub loop-peer-preserved : goal.loop-peer-preserved
loop-peer-preserved g c = joined_with (facts_of g.T.Timeline.settled g.T.Timeline.refused g.T.Timeline.floor g.T.Timeline.SLACK) IsFollowing c.args.self.now.clients c.loop-peer.self.clients c.follow.new.self.clients c.loop-peer.invariant c.in_ok-follow.ensures
