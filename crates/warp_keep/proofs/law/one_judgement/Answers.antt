use Rattle.warp_keep.proofs.Judged.{differs_may_not, late_may_not, one_judged, open_may}
use Rattle.warp_keep.proofs.law.one_judgement.Goals as goal

pub returns-clause-one : goal.returns-clause-one
returns-clause-one c = one_judged

pub returns-clause-open : goal.returns-clause-open
returns-clause-open c = open_may

pub returns-clause-late : goal.returns-clause-late
returns-clause-late c = late_may_not

pub returns-clause-differs : goal.returns-clause-differs
returns-clause-differs c = differs_may_not
