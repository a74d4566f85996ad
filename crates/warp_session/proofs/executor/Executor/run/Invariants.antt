use Rattle.warp_session.specs.Serve.{HasServed}
use Rattle.warp_session.proofs.executor.Executor.run.Given as goal

abbrev pub invariant-loop : goal.invariant-loop
invariant-loop g l = HasServed g.T.Timeline.settled l.initial.self.engine l.self.engine
