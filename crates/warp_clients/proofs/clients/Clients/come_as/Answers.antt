use Rattle.warp_replica.specs.Answered.{facts_of}
use Rattle.warp_clients.proofs.Entered.{entered}
use Rattle.warp_clients.proofs.clients.Clients.come_as.Goals as goal

pub returns-clause-ok : goal.returns-clause-ok
returns-clause-ok g c = entered (facts_of g.T.Timeline.settled g.T.Timeline.refused g.T.Timeline.floor g.T.Timeline.SLACK) c.args.self.now c.come.new.self c.give.new.self c.in_ok-who.who c.args.rights c.in_ok-who.ensures.ok c.give.ensures.room c.give.ensures.places c.give.ensures.common
