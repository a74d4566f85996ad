use Rattle.std.proofs.Common.{refl}
use Rattle.warp_replica.specs.Answered.{facts_of}
use Rattle.warp_clients.proofs.Stepping.{serve_run}
use Rattle.warp_clients.proofs.clients.Clients.answer_some.Goals as goal

pub returns-clause-run : goal.returns-clause-run
returns-clause-run g c = rw (← c.self.view_is) (serve_run (facts_of g.T.Timeline.settled g.T.Timeline.refused g.T.Timeline.floor g.T.Timeline.SLACK) c.args.most_lines (record { room = c.self.inside.room; crowd = c.self.inside.crowd }) (record { room = c.answer_some.new.self; crowd = c.self.inside.crowd }) c.answer_some.ensures refl)
