use Rattle.warp_replica.specs.Answered.{facts_of}
use Rattle.warp_clients.proofs.Moving.{run_noted}
use Rattle.warp_clients.proofs.clients.Clients.end.Goals as goal

pub returns : goal.returns
returns g c = run_noted (facts_of g.T.Timeline.settled g.T.Timeline.refused g.T.Timeline.floor g.T.Timeline.SLACK) c.args.self.now c.end_wire.new.self c.note.new.self c.end_wire.ensures c.note.ensures
