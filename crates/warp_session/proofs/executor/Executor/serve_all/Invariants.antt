use Rattle.warp_session.specs.Serve.{HasServed}
use Rattle.warp_session.proofs.executor.Executor.serve_all.Given as goal

abbrev pub invariant-loop-lane : goal.invariant-loop-lane
invariant-loop-lane g l = HasServed g.T.Timeline.settled l.initial.self.engine l.self.engine
