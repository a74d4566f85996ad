use Rattle.warp_keep.proofs.Singles.{kept_single}
use Rattle.warp_keep.proofs.Closed.{may_close, may_close_jointly}
use Rattle.warp_keep.proofs.law.kept_may_close.Goals as goal

pub returns-clause-single : goal.returns-clause-single
returns-clause-single c = kept_single

pub returns-clause-own : goal.returns-clause-own
returns-clause-own c = may_close

pub returns-clause-jointly : goal.returns-clause-jointly
returns-clause-jointly c = may_close_jointly
