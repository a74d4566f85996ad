use Rattle.std.proofs.Common.{refl}
use Rattle.warp_replica.specs.Answered.{facts_of}
use Rattle.warp_clients.proofs.Stepping.{work_run}
use Rattle.warp_clients.proofs.clients.Clients.work.Goals as goal

pub returns-clause-run : goal.returns-clause-run
returns-clause-run g c = rw (← c.self.view_is) (work_run (facts_of g.T.Timeline.settled g.T.Timeline.refused g.T.Timeline.floor g.T.Timeline.SLACK) g.T.Timeline.stands_for c.args.most_lines c.args.most_steps (record { room = c.self.inside.room; crowd = c.self.inside.crowd }) (record { room = c.work.new.self; crowd = c.self.inside.crowd }) _ c.work.ensures refl)
