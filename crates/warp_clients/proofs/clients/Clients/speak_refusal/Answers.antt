use Rattle.std.proofs.Common.{refl}
use Rattle.warp_replica.specs.Answered.{facts_of}
use Rattle.warp_clients.proofs.Moving.{moves_run, tells}
use Rattle.warp_clients.proofs.clients.Clients.speak_refusal.Goals as goal

pub returns : goal.returns
returns g c =
    rw (← c.self.view_is)
    (moves_run (facts_of g.T.Timeline.settled g.T.Timeline.refused g.T.Timeline.floor g.T.Timeline.SLACK) c.args.who
    (record { room = c.self.inside.room; crowd = c.self.inside.crowd }) (record { room = c.self.inside.room; crowd = c.speak_told.new.self })
    refl (
      c.speak_told.ensures.common,
      tells c.self.inside.crowd.common c.args.who 0 _ c.self.inside.crowd.clients c.speak_told.new.self.clients
          c.speak_told.ensures.tells,
    ))
