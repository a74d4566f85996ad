use Rattle.warp_replica.specs.Answered.{facts_of}
use Rattle.warp_room.proofs.Bounds.{few_kept, few_waiting}
use Rattle.warp_room.proofs.law.few_wait.Goals as goal

pub returns-clause-kept : goal.returns-clause-kept
returns-clause-kept g c = few_kept (facts_of g.T.Timeline.settled g.T.Timeline.refused g.T.Timeline.floor g.T.Timeline.SLACK)

pub returns-clause-waiting : goal.returns-clause-waiting
returns-clause-waiting g c = few_waiting
