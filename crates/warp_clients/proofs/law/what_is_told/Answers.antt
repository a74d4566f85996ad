use Rattle.warp_replica.specs.Answered.{facts_of}
use Rattle.std.proofs.Common.{[], refl}
use Rattle.warp_room.proofs.Runs.{runs_history}
use Rattle.warp_clients.specs.Tale.{room_steps, tale_of}
use Rattle.warp_clients.proofs.ToldTales.{all_allowed, begins, room_runs, told_all}
use Rattle.warp_clients.proofs.law.what_is_told.Goals as goal

pub returns-clause-told : goal.returns-clause-told
returns-clause-told g c = λ steps s s' empty runs.
    let facts = facts_of g.T.Timeline.settled g.T.Timeline.refused g.T.Timeline.floor g.T.Timeline.SLACK in
    told_all facts s.crowd.common.facts steps (tale_of s.crowd.common.facts []) s s' refl runs (begins facts s.crowd.common.facts s empty)

pub returns-clause-allowed : goal.returns-clause-allowed
returns-clause-allowed g c = λ steps s s' empty runs.
    let facts = facts_of g.T.Timeline.settled g.T.Timeline.refused g.T.Timeline.floor g.T.Timeline.SLACK in
    all_allowed facts s.crowd.common.facts steps (tale_of s.crowd.common.facts []) s s' refl runs (begins facts s.crowd.common.facts s empty)

pub returns-clause-room : goal.returns-clause-room
returns-clause-room g c = λ steps s s' runs.
    room_runs (facts_of g.T.Timeline.settled g.T.Timeline.refused g.T.Timeline.floor g.T.Timeline.SLACK) steps s s' runs

pub returns-clause-history : goal.returns-clause-history
returns-clause-history g c = λ steps s s' runs.
    let facts = facts_of g.T.Timeline.settled g.T.Timeline.refused g.T.Timeline.floor g.T.Timeline.SLACK in
    runs_history facts (room_steps steps) s.room s'.room (room_runs facts steps s s' runs)
