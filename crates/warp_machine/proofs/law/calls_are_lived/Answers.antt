use Rattle.warp_replica.specs.Answered.{facts_of}
use Rattle.warp_machine.specs.Moving.{IsAny, IsFollowing, IsHearing, IsPassing}
use Rattle.warp_machine.proofs.Joining.{hearing, joined_with, lived, lived_away, lived_inner, lived_step, writing}
use Rattle.warp_machine.proofs.law.calls_are_lived.Goals as goal

pub returns-clause-moved : goal.returns-clause-moved
returns-clause-moved g c = lived_inner (facts_of g.T.Timeline.settled g.T.Timeline.refused g.T.Timeline.floor g.T.Timeline.SLACK)

pub returns-clause-hearing : goal.returns-clause-hearing
returns-clause-hearing g c = lived (facts_of g.T.Timeline.settled g.T.Timeline.refused g.T.Timeline.floor g.T.Timeline.SLACK) IsHearing

pub returns-clause-passing : goal.returns-clause-passing
returns-clause-passing g c = lived (facts_of g.T.Timeline.settled g.T.Timeline.refused g.T.Timeline.floor g.T.Timeline.SLACK) IsPassing

pub returns-clause-following : goal.returns-clause-following
returns-clause-following g c = lived (facts_of g.T.Timeline.settled g.T.Timeline.refused g.T.Timeline.floor g.T.Timeline.SLACK) IsFollowing

pub returns-clause-stepped : goal.returns-clause-stepped
returns-clause-stepped g c = lived_step (facts_of g.T.Timeline.settled g.T.Timeline.refused g.T.Timeline.floor g.T.Timeline.SLACK)

pub returns-clause-heard : goal.returns-clause-heard
returns-clause-heard g c = λ who bytes s s' hears.
    let facts = facts_of g.T.Timeline.settled g.T.Timeline.refused g.T.Timeline.floor g.T.Timeline.SLACK in
    lived facts IsHearing s s' (hearing facts who bytes s s' hears)

pub returns-clause-written : goal.returns-clause-written
returns-clause-written g c = λ who count s s' writes.
    let facts = facts_of g.T.Timeline.settled g.T.Timeline.refused g.T.Timeline.floor g.T.Timeline.SLACK in
    lived facts IsPassing s s' (writing facts who count s s' writes)

pub returns-clause-turned_away : goal.returns-clause-turned_away
returns-clause-turned_away g c = lived_away (facts_of g.T.Timeline.settled g.T.Timeline.refused g.T.Timeline.floor g.T.Timeline.SLACK)

pub returns-clause-joined : goal.returns-clause-joined
returns-clause-joined g c = joined_with (facts_of g.T.Timeline.settled g.T.Timeline.refused g.T.Timeline.floor g.T.Timeline.SLACK) IsAny
