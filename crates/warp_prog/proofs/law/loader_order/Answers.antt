-- where some order is admissible the loader's is
use Rattle.std.proofs.lemmas.Bool.{both_ways, false_from_ne_true, not-true}
use Rattle.warp_step.specs.Order.{is_admissible}
use Rattle.warp_prog.specs.Order.{loader_order}
use Rattle.warp_prog.proofs.OrderLemmas.{order-found}
use Rattle.warp_prog.proofs.law.loader_order.Goals as goal

pub returns-clause-found : goal.returns-clause-found
returns-clause-found c = order-found

pub returns-clause-none : goal.returns-clause-none
returns-clause-none c =
    λ P h o. false_from_ne_true (is_admissible P o)
    (λ t. both_ways (is_admissible P (loader_order P)) (not-true (is_admissible P (loader_order P)) h) (order-found P o t))
