use Rattle.std.specs.Prelude.{Some}
use Rattle.warp_replica.specs.Answered.{facts_of}
use Rattle.warp_clients.specs.Steps.{Clocks}
use Rattle.warp_machine.proofs.Joining.{by_step}
use Rattle.warp_machine.proofs.moves.set_clock.Goals as goal

pub returns : goal.returns
returns g c = by_step (facts_of g.T.Timeline.settled g.T.Timeline.refused g.T.Timeline.floor g.T.Timeline.SLACK) (Clocks (Some c.args.told)) c.args.clients.now c.set_clock.new.self tt c.set_clock.ensures
