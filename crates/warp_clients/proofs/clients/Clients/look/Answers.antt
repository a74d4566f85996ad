use Rattle.warp_replica.specs.Answered.{facts_of}
use Rattle.warp_clients.proofs.Moving.{run_on}
use Rattle.warp_clients.proofs.clients.Clients.look.Goals as goal

pub returns : goal.returns
returns g c = run_on (facts_of g.T.Timeline.settled g.T.Timeline.refused g.T.Timeline.floor g.T.Timeline.SLACK) c.args.self.now c.show.new.self c.answer_look.new.self c.show.ensures c.answer_look.ensures
