use Rattle.warp_keep.proofs.Honest.{keepers, kept_log, may_start}
use Rattle.warp_keep.proofs.law.kept_honest.Goals as goal

pub returns-clause-log : goal.returns-clause-log
returns-clause-log c = kept_log

pub returns-clause-keepers : goal.returns-clause-keepers
returns-clause-keepers c = keepers

pub returns-clause-start : goal.returns-clause-start
returns-clause-start c = may_start
