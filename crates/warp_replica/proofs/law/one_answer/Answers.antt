use Rattle.warp_replica.proofs.Replies.{some_answer, one_answer}
use Rattle.warp_replica.proofs.SomeHorizon.{announces}
use Rattle.warp_replica.proofs.law.one_answer.Goals as goal

pub returns-clause-some : goal.returns-clause-some
returns-clause-some c = λ P records origins once. some_answer P records once (announces P records origins)

pub returns-clause-one : goal.returns-clause-one
returns-clause-one c = one_answer
