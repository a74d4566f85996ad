use Rattle.std.proofs.Common.{refl}
use Rattle.warp_replica.specs.Answered.{facts_of}
use Rattle.warp_clients.proofs.Stepping.{show_run}
use Rattle.warp_clients.proofs.clients.Clients.show.Goals as goal

pub returns : goal.returns
returns g c = rw (← c.self.view_is) (show_run (facts_of g.T.Timeline.settled g.T.Timeline.refused g.T.Timeline.floor g.T.Timeline.SLACK) (record { room = c.self.inside.room; crowd = c.self.inside.crowd }) (record { room = c.show-is_shown.new.self; crowd = c.self.inside.crowd }) c.show-is_shown.ensures.others refl)
