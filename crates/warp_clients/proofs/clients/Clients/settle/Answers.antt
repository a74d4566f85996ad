use Rattle.warp_replica.specs.Answered.{facts_of}
use Rattle.warp_clients.proofs.Moving.{run_noted, run_on}
use Rattle.warp_clients.proofs.clients.Clients.settle.Goals.{in-Nothing, in-Look, in-Ask}
use Rattle.warp_clients.proofs.clients.Clients.settle.Goals as goal

pub returns : goal.returns
returns g c = run_noted (facts_of g.T.Timeline.settled g.T.Timeline.refused g.T.Timeline.floor g.T.Timeline.SLACK) c.args.self.now c.match-settle_here.self c.note.new.self (elim c.match-settle_here.branch [
  | in-Nothing w ↦ rw w.self-is c.settle_here.ensures
  | in-Look w ↦ rw w.self-is (run_on (facts_of g.T.Timeline.settled g.T.Timeline.refused g.T.Timeline.floor g.T.Timeline.SLACK) c.args.self.now c.settle_here.new.self w.look.new.self c.settle_here.ensures w.look.ensures)
  | in-Ask w ↦ rw w.self-is (run_on (facts_of g.T.Timeline.settled g.T.Timeline.refused g.T.Timeline.floor g.T.Timeline.SLACK) c.args.self.now c.settle_here.new.self w.want.new.self c.settle_here.ensures w.want.ensures)
]) c.note.ensures
