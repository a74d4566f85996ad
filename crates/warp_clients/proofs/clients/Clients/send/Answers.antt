use Rattle.std.proofs.Common.{◌+◌, min, refl}
use Rattle.warp_step.specs.Program.{top_of}
use Rattle.warp_replica.specs.Answered.{facts_of}
use Rattle.warp_clients.proofs.OwnSteps.{sent_run}
use Rattle.warp_clients.proofs.clients.Clients.send.Goals as goal

pub returns-clause-run : goal.returns-clause-run
returns-clause-run g c =
    rw (← c.self.view_is)
    (sent_run (facts_of g.T.Timeline.settled g.T.Timeline.refused g.T.Timeline.floor g.T.Timeline.SLACK)
    (min c.args.most (top_of c.self.inside.room.replica.program + 1)) c.args.input c.args.asked c.send.result
    (record { room = c.self.inside.room; crowd = c.self.inside.crowd }) (record { room = c.send.new.self; crowd = c.self.inside.crowd })
    c.send.ensures refl)
