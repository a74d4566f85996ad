use Rattle.warp_session.proofs.ServedEngines.{served_later, served_none}
use Rattle.warp_session.proofs.executor.Executor.run.Goals as goal
use Rattle.warp_session.proofs.executor.Executor.run.Goals.{in-None, in-Some+else-serve_all+then-last}

pub loop-init : goal.loop-init
loop-init g c = served_none g.T.Timeline.settled _

pub loop-preserved-then-serve_all : goal.loop-preserved-then-serve_all
loop-preserved-then-serve_all g c =
    served_later g.T.Timeline.settled c.args.self.engine c.loop.self.engine c.serve_all.new.self.engine c.loop.invariant
    c.serve_all.ensures.serves

pub loop-preserved : goal.loop-preserved
loop-preserved g c =
    served_later g.T.Timeline.settled c.args.self.engine c.loop.self.engine c.serve_all.new.self.engine c.loop.invariant
    c.serve_all.ensures.serves

pub returns : goal.returns
returns g c =
    elim c.match-next.branch [
      | in-None w ↦ rw w.self-is c.loop.invariant
      | in-Some+else-serve_all+then-last w ↦
          rw w.self-is
          (served_later g.T.Timeline.settled c.args.self.engine c.loop.self.engine w.serve_all.new.self.engine
          c.loop.invariant w.serve_all.ensures.serves)
    ]
