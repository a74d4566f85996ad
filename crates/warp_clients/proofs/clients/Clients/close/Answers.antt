use Rattle.std.proofs.Common.{refl}
use Rattle.warp_replica.specs.Answered.{facts_of}
use Rattle.warp_clients.proofs.OwnSteps.{closed_run}
use Rattle.warp_clients.proofs.clients.Clients.close.Goals as goal

pub returns-clause-run : goal.returns-clause-run
returns-clause-run g c =
    rw (← c.self.view_is)
    (closed_run (facts_of g.T.Timeline.settled g.T.Timeline.refused g.T.Timeline.floor g.T.Timeline.SLACK) c.close.result c.args.tag
    (record { room = c.self.inside.room; crowd = c.self.inside.crowd }) (record { room = c.close.new.self; crowd = c.self.inside.crowd })
    c.close.ensures.closed c.close.ensures.err refl)

pub returns-clause-err : goal.returns-clause-err
returns-clause-err g c = rw (← c.self.view_is) c.close.ensures.err
