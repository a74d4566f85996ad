-- a chain of takings is one of changes
use Rattle.warp_replica.proofs.Chains.{few, fresh, none}
use Rattle.warp_replica.proofs.rework_law.rework_after_takes.Goals as goal

pub returns-clause-bound : goal.returns-clause-bound
returns-clause-bound g c = few g.T.Timeline.stands_for g.T.Timeline.floor g.T.Timeline.SLACK g.T.Timeline.drops

pub returns-clause-idle : goal.returns-clause-idle
returns-clause-idle g c = none g.T.Timeline.stands_for g.T.Timeline.floor g.T.Timeline.SLACK g.T.Timeline.drops

pub returns-clause-ahead : goal.returns-clause-ahead
returns-clause-ahead g c = fresh g.T.Timeline.stands_for g.T.Timeline.floor g.T.Timeline.SLACK g.T.Timeline.drops
