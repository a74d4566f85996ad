use Rattle.warp_session.proofs.ServedEngines.{served_later, served_none}
use Rattle.warp_session.proofs.executor.Executor.serve_all.Goals as goal

pub loop-lane-init : goal.loop-lane-init
loop-lane-init g c = served_none g.T.Timeline.settled _

pub loop-lane-preserved : goal.loop-lane-preserved
loop-lane-preserved g c =
    served_later g.T.Timeline.settled _ _ c.serve-found.new.self.engine c.loop-lane.invariant
    c.serve-found.ensures.serves
