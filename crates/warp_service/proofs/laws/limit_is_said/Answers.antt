use Rattle.warp_service.proofs.LengthLemmas.{said, synced_all}
use Rattle.warp_service.proofs.laws.limit_is_said.Goals as goal

pub returns-clause-said : goal.returns-clause-said
returns-clause-said c = said

pub returns-clause-synced : goal.returns-clause-synced
returns-clause-synced c = synced_all
