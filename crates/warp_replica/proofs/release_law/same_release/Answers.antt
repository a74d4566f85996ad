use Rattle.std.proofs.Common.{ap}
use Rattle.warp_replica.proofs.Replies.{one_answer}
use Rattle.warp_replica.proofs.release_law.same_release.Goals as goal

pub returns-clause-horizon : goal.returns-clause-horizon
returns-clause-horizon c = λ P S a b h k. ap (λ answers. answers.horizon) (one_answer P S a b h k)

pub returns-clause-released : goal.returns-clause-released
returns-clause-released c = λ P S a b h k. ap (λ answers. answers.released) (one_answer P S a b h k)

pub returns-clause-broken : goal.returns-clause-broken
returns-clause-broken c = λ P S a b h k. ap (λ answers. answers.broken) (one_answer P S a b h k)
