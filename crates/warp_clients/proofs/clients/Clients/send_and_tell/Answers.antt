use Rattle.warp_replica.specs.Answered.{facts_of}
use Rattle.warp_clients.proofs.Moving.{run_on}
use Rattle.warp_clients.proofs.clients.Clients.send_and_tell.Goals as goal

pub returns-clause-run : goal.returns-clause-run
returns-clause-run g c =
    run_on (facts_of g.T.Timeline.settled g.T.Timeline.refused g.T.Timeline.floor g.T.Timeline.SLACK) c.args.self.now c.send_told-told.new.self c.tell_sent.new.self
    c.send_told-told.ensures.run c.tell_sent.ensures.run
