use Rattle.warp_replica.specs.Answered.{facts_of}
use Rattle.warp_machine.proofs.Joining.{not_come}
use Rattle.warp_machine.proofs.moves.come.Goals as goal

pub returns-in_default-clause-none : goal.returns-in_default-clause-none
returns-in_default-clause-none g c = not_come (facts_of g.T.Timeline.settled g.T.Timeline.refused g.T.Timeline.floor g.T.Timeline.SLACK) c.args.clients.now c.come.new.self c.in_default.ensures.err
