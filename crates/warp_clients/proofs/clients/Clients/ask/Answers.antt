use Rattle.warp_replica.specs.Answered.{facts_of}
use Rattle.warp_clients.proofs.Moving.{run_one}
use Rattle.warp_clients.specs.Steps as steps
use Rattle.warp_clients.proofs.clients.Clients.ask.Goals as goal

pub returns-in-Ok : goal.returns-in-Ok
returns-in-Ok g c = rw (← c.self.view_is) (run_one (facts_of g.T.Timeline.settled g.T.Timeline.refused g.T.Timeline.floor g.T.Timeline.SLACK) (steps.Asks c.args.who c.args.said) (record { room = c.self.inside.room; crowd = c.self.inside.crowd }) (record { room = c.hear.new.self; crowd = c.go_in.new.self }) tt (c.in-Ok.ensures.ok, (c.go_in.ensures.places, c.go_in.ensures.common)))
