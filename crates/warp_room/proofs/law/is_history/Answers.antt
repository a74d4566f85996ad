use Rattle.warp_replica.specs.Answered.{facts_of}
use Rattle.warp_room.proofs.Parts.{parted}
use Rattle.warp_room.proofs.Runs.{runs_history}
use Rattle.warp_room.proofs.law.is_history.Goals as goal

pub returns-clause-one : goal.returns-clause-one
returns-clause-one g c = runs_history (facts_of g.T.Timeline.settled g.T.Timeline.refused g.T.Timeline.floor g.T.Timeline.SLACK)

pub returns-clause-parted : goal.returns-clause-parted
returns-clause-parted g c = λ steps r r' clients runs distinct has.
    parted _ _ _ steps clients
    (runs_history (facts_of g.T.Timeline.settled g.T.Timeline.refused g.T.Timeline.floor g.T.Timeline.SLACK) steps r r' runs) distinct has
