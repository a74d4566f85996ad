use Rattle.warp_replica.specs.Answered.{facts_of}
use Rattle.warp_machine.specs.Moving.{IsFollowing}
use Rattle.warp_machine.proofs.Joining.{follows, with_on}
use Rattle.warp_machine.proofs.machine.Machine.follow.Goals as goal

pub returns : goal.returns
returns g c = with_on (facts_of g.T.Timeline.settled g.T.Timeline.refused g.T.Timeline.floor g.T.Timeline.SLACK) IsFollowing c.args.self.now.clients c.come_as.new.clients c.give_place.new.self.clients (follows (facts_of g.T.Timeline.settled g.T.Timeline.refused g.T.Timeline.floor g.T.Timeline.SLACK) c.in-Some.who c.args.self.now.clients c.come_as.new.clients c.in-Some.ensures.enters) c.give_place.ensures.same
