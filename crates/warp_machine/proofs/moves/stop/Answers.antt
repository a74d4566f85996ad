use Rattle.warp_replica.specs.Answered.{facts_of}
use Rattle.warp_clients.specs.Client.{Ended}
use Rattle.warp_clients.specs.Steps.{Does}
use Rattle.warp_machine.proofs.Joining.{may_step}
use Rattle.warp_machine.proofs.moves.stop.Goals as goal

pub returns : goal.returns
returns g c = may_step (facts_of g.T.Timeline.settled g.T.Timeline.refused g.T.Timeline.floor g.T.Timeline.SLACK) (Does c.args.who Ended) c.args.clients.now c.stop.new.self tt c.stop.ensures
