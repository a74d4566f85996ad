use Rattle.warp_replica.specs.Answered.{facts_of}
use Rattle.warp_room.proofs.Older.{came_none, older_kept}
use Rattle.warp_room.proofs.law.comers_are_new.Goals as goal

pub returns-clause-kept : goal.returns-clause-kept
returns-clause-kept g c = older_kept (facts_of g.T.Timeline.settled g.T.Timeline.refused g.T.Timeline.floor g.T.Timeline.SLACK)

pub returns-clause-none : goal.returns-clause-none
returns-clause-none g c = came_none (facts_of g.T.Timeline.settled g.T.Timeline.refused g.T.Timeline.floor g.T.Timeline.SLACK)
