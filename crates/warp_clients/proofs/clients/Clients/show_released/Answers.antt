use Rattle.std.proofs.Common.{refl}
use Rattle.warp_replica.specs.Answered.{facts_of}
use Rattle.warp_clients.proofs.Stepping.{show_step}
use Rattle.warp_clients.proofs.clients.Clients.show_released.Goals as goal

pub returns-clause-step : goal.returns-clause-step
returns-clause-step g c = rw (← c.self.view_is) (show_step (facts_of g.T.Timeline.settled g.T.Timeline.refused g.T.Timeline.floor g.T.Timeline.SLACK) (record { room = c.self.inside.room; crowd = c.self.inside.crowd }) (record { room = c.show.new.self; crowd = c.self.inside.crowd }) c.show.ensures.others refl)
