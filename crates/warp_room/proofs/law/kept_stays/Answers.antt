use Rattle.warp_keep.specs.Keeping.{keeps}
use Rattle.warp_replica.specs.Answered.{facts_of}
use Rattle.warp_replica.specs.Replica.{AreAllowed}
use Rattle.warp_step.specs.Program.{Program}
use Rattle.std.proofs.Common.{subst}
use Rattle.warp_room.proofs.KeptLogs.{goes_on_itself}
use Rattle.warp_room.proofs.KeptReleases.{still_released, still_unbroken}
use Rattle.warp_room.proofs.Runs.{runs_goes_on, runs_keeping}
use Rattle.warp_room.proofs.law.kept_stays.Goals as goal

pub returns-clause-same : goal.returns-clause-same
returns-clause-same g c = runs_keeping (facts_of g.T.Timeline.settled g.T.Timeline.refused g.T.Timeline.floor g.T.Timeline.SLACK)

pub returns-clause-goes_on : goal.returns-clause-goes_on
returns-clause-goes_on g c = runs_goes_on (facts_of g.T.Timeline.settled g.T.Timeline.refused g.T.Timeline.floor g.T.Timeline.SLACK)

pub returns-clause-unbroken : goal.returns-clause-unbroken
returns-clause-unbroken g c = λ steps r r' origin runs is whole.
    still_unbroken (keeps r.keeping) r.replica.records r'.replica.records origin is
    (runs_goes_on (facts_of g.T.Timeline.settled g.T.Timeline.refused g.T.Timeline.floor g.T.Timeline.SLACK) steps r r' r.replica.records runs
    (goes_on_itself (keeps r.keeping) r.replica.records)) whole

pub returns-clause-released : goal.returns-clause-released
returns-clause-released g c = λ steps r r' S U a b runs kept all allowed inner outer.
    let facts = facts_of g.T.Timeline.settled g.T.Timeline.refused g.T.Timeline.floor g.T.Timeline.SLACK in
    still_released r.replica.program (keeps r.keeping) r.replica.records r'.replica.records S U a b kept
    (λ first. runs_goes_on facts steps r r' first runs) all
    (subst (λ (P : Program). AreAllowed P r'.replica.records) (runs_keeping facts steps r r' runs).1 allowed) inner outer
