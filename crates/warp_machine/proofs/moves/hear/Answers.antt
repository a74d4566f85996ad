use Rattle.warp_replica.specs.Answered.{facts_of}
use Rattle.warp_clients.specs.Client.{Lost}
use Rattle.warp_clients.specs.Steps.{Does}
use Rattle.warp_machine.proofs.Joining.{may_step}
use Rattle.warp_machine.proofs.moves.hear.Goals as goal

pub returns-in_default-clause-lost : goal.returns-in_default-clause-lost
returns-in_default-clause-lost g c = may_step (facts_of g.T.Timeline.settled g.T.Timeline.refused g.T.Timeline.floor g.T.Timeline.SLACK) (Does c.args.who Lost) c.args.clients.now c.hear.new.self tt c.in_default.ensures.err
