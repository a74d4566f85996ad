use Rattle.std.proofs.Common.{rules}
use Rattle.warp_table.specs.Records.{union}
use Rattle.warp_replica.specs.Merge.{merged}
use Rattle.warp_replica.proofs.Mergings.{associated, commuted, merged_again}
use Rattle.warp_replica.proofs.Replies.{same_answers, same_gives}
use Rattle.warp_replica.proofs.law.merging_laws.Goals as goal

pub returns-clause-commutes : goal.returns-clause-commutes
returns-clause-commutes c = λ P S T. same_answers P (union S T) (union T S) (search rules)

pub returns-clause-associates : goal.returns-clause-associates
returns-clause-associates c = λ P S T U. same_answers P (union (union S T) U) (union S (union T U)) (search rules)

pub returns-clause-idempotent : goal.returns-clause-idempotent
returns-clause-idempotent c = λ P S. same_answers P (union S S) S (search rules)

pub returns-clause-logs_commute : goal.returns-clause-logs_commute
returns-clause-logs_commute c = λ P records other query reply places.
    same_gives P (merged records other) (merged other records) query reply (commuted records other) places

pub returns-clause-logs_associate : goal.returns-clause-logs_associate
returns-clause-logs_associate c = λ P records other third query reply places.
    same_gives P (merged (merged records other) third) (merged records (merged other third)) query reply (associated records other third) places

pub returns-clause-logs_again : goal.returns-clause-logs_again
returns-clause-logs_again c = merged_again
