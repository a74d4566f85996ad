use Rattle.warp_replica.specs.Answered.{facts_of}
use Rattle.warp_room.specs.Steps.{Executed}
use Rattle.warp_clients.specs.Steps.{Works}
use Rattle.warp_machine.proofs.Joining.{by_step}
use Rattle.warp_machine.proofs.moves.execute.Goals as goal

pub returns : goal.returns
returns g c = by_step (facts_of g.T.Timeline.settled g.T.Timeline.refused g.T.Timeline.floor g.T.Timeline.SLACK) (Works Executed) c.args.clients.now c.execute-progress.new.self tt c.execute-progress.ensures
