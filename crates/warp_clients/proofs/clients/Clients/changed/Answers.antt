use Rattle.std.proofs.Common.{refl}
use Rattle.warp_replica.specs.Answered.{facts_of}
use Rattle.warp_clients.proofs.Stepping.{named_run}
use Rattle.warp_clients.proofs.clients.Clients.changed.Goals as goal

pub returns-clause-run : goal.returns-clause-run
returns-clause-run g c = rw (← c.self.view_is) (named_run (facts_of g.T.Timeline.settled g.T.Timeline.refused g.T.Timeline.floor g.T.Timeline.SLACK) (record { room = c.self.inside.room; crowd = c.self.inside.crowd }) (record { room = c.self.inside.room; crowd = c.changed.new.self }) refl c.changed.result c.changed.ensures.some c.changed.ensures.none)
