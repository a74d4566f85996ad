use Rattle.std.proofs.Common.{refl}
use Rattle.warp_replica.specs.Answered.{facts_of}
use Rattle.warp_clients.proofs.Stepping.{closed_step}
use Rattle.warp_clients.proofs.clients.Clients.ping.Goals as goal

pub returns : goal.returns
returns g c = rw (← c.self.view_is) (closed_step (facts_of g.T.Timeline.settled g.T.Timeline.refused g.T.Timeline.floor g.T.Timeline.SLACK) (record { room = c.self.inside.room; crowd = c.self.inside.crowd }) (record { room = c.self.inside.room; crowd = c.ping.new.self }) c.args.who refl c.ping.ensures.places c.ping.ensures.common)
