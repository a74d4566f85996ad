use Rattle.warp_replica.specs.Answered.{facts_of}
use Rattle.warp_room.proofs.CallSteps.{runs_join, tell_does, work_runs}
use Rattle.warp_room.proofs.law.calls_are_steps.Goals as goal

pub returns-clause-work : goal.returns-clause-work
returns-clause-work g c = λ lines steps r r' worked works.
    work_runs (facts_of g.T.Timeline.settled g.T.Timeline.refused g.T.Timeline.floor g.T.Timeline.SLACK) g.T.Timeline.stands_for lines steps r r' worked works

pub returns-clause-tell : goal.returns-clause-tell
returns-clause-tell g c = tell_does (facts_of g.T.Timeline.settled g.T.Timeline.refused g.T.Timeline.floor g.T.Timeline.SLACK)

pub returns-clause-joined : goal.returns-clause-joined
returns-clause-joined g c = runs_join (facts_of g.T.Timeline.settled g.T.Timeline.refused g.T.Timeline.floor g.T.Timeline.SLACK)
