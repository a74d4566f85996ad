use Rattle.warp_replica.proofs.Mergings.{merged_set, merged_once}
use Rattle.warp_replica.proofs.law.merging_joins.Goals as goal

pub returns-clause-set : goal.returns-clause-set
returns-clause-set c = merged_set

pub returns-clause-once : goal.returns-clause-once
returns-clause-once c = merged_once
