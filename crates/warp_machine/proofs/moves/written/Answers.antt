use Rattle.warp_replica.specs.Answered.{facts_of}
use Rattle.warp_machine.proofs.Joining.{may_write}
use Rattle.warp_machine.proofs.moves.written.Goals as goal

pub returns : goal.returns
returns g c = may_write (facts_of g.T.Timeline.settled g.T.Timeline.refused g.T.Timeline.floor g.T.Timeline.SLACK) c.args.who c.args.count c.args.clients.now c.written.new.self c.written.ensures
