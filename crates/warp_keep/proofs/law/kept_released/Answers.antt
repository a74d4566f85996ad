use Rattle.warp_keep.proofs.Honest.{kept_agree, kept_anew, kept_stays}
use Rattle.warp_keep.proofs.law.kept_released.Goals as goal

pub returns-clause-stays : goal.returns-clause-stays
returns-clause-stays c = kept_stays

pub returns-clause-agree : goal.returns-clause-agree
returns-clause-agree c = kept_agree

pub returns-clause-anew : goal.returns-clause-anew
returns-clause-anew c = kept_anew
