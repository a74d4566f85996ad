use Rattle.warp_replica.specs.Answered.{facts_of}
use Rattle.warp_room.proofs.OpenLines.{answered, came, handed, heard, left, others_handed, others_heard, others_left, own_said}
use Rattle.warp_room.proofs.law.oldest_first.Goals as goal

pub returns-clause-heard : goal.returns-clause-heard
returns-clause-heard g c = heard (facts_of g.T.Timeline.settled g.T.Timeline.refused g.T.Timeline.floor g.T.Timeline.SLACK)

pub returns-clause-answered : goal.returns-clause-answered
returns-clause-answered g c = answered (facts_of g.T.Timeline.settled g.T.Timeline.refused g.T.Timeline.floor g.T.Timeline.SLACK)

pub returns-clause-handed : goal.returns-clause-handed
returns-clause-handed g c = handed

pub returns-clause-left : goal.returns-clause-left
returns-clause-left g c = left

pub returns-clause-others_heard : goal.returns-clause-others_heard
returns-clause-others_heard g c = others_heard (facts_of g.T.Timeline.settled g.T.Timeline.refused g.T.Timeline.floor g.T.Timeline.SLACK)

pub returns-clause-others_handed : goal.returns-clause-others_handed
returns-clause-others_handed g c = others_handed

pub returns-clause-others_left : goal.returns-clause-others_left
returns-clause-others_left g c = others_left

pub returns-clause-came : goal.returns-clause-came
returns-clause-came g c = came (facts_of g.T.Timeline.settled g.T.Timeline.refused g.T.Timeline.floor g.T.Timeline.SLACK)

pub returns-clause-own : goal.returns-clause-own
returns-clause-own g c = own_said (facts_of g.T.Timeline.settled g.T.Timeline.refused g.T.Timeline.floor g.T.Timeline.SLACK)
