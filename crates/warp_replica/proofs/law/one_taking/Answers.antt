use Rattle.warp_replica.proofs.Takings.{one_taking, some_taking}
use Rattle.warp_replica.proofs.law.one_taking.Goals as goal

pub returns-clause-one : goal.returns-clause-one
returns-clause-one c = one_taking

pub returns-clause-some : goal.returns-clause-some
returns-clause-some c = some_taking
