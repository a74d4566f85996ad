use Rattle.warp_service.proofs.LengthLemmas.{grows}
use Rattle.warp_service.proofs.laws.limit_only_grows.Goals as goal

pub returns-clause-grows : goal.returns-clause-grows
returns-clause-grows c = grows
