use Rattle.std.proofs.Common.{refl}
use Rattle.warp_replica.specs.Answered.{facts_of}
use Rattle.warp_clients.proofs.Stepping.{show_run}
use Rattle.warp_clients.proofs.clients.Clients.is_told.Goals as goal

pub returns-in-Ok : goal.returns-in-Ok
returns-in-Ok g c = rw (← c.self.view_is) (show_run (facts_of g.T.Timeline.settled g.T.Timeline.refused g.T.Timeline.floor g.T.Timeline.SLACK) (record { room = c.self.inside.room; crowd = c.self.inside.crowd }) (record { room = c.tell.new.self; crowd = c.self.inside.crowd }) c.tell.ensures.others refl)

pub returns-in-Err : goal.returns-in-Err
returns-in-Err g c = rw (← c.self.view_is) (show_run (facts_of g.T.Timeline.settled g.T.Timeline.refused g.T.Timeline.floor g.T.Timeline.SLACK) (record { room = c.self.inside.room; crowd = c.self.inside.crowd }) (record { room = c.tell.new.self; crowd = c.self.inside.crowd }) c.tell.ensures.others refl)
