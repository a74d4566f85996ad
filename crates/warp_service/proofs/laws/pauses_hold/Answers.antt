use Rattle.warp_service.proofs.PathLemmas.{loses, waits_on}
use Rattle.warp_service.proofs.PauseLemmas.{counted}
use Rattle.warp_service.proofs.laws.pauses_hold.Goals as goal

pub returns-clause-waits : goal.returns-clause-waits
returns-clause-waits c = waits_on

pub returns-clause-lost : goal.returns-clause-lost
returns-clause-lost c = loses

pub returns-clause-counted : goal.returns-clause-counted
returns-clause-counted c = counted
