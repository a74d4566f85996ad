use Rattle.warp_seats.proofs.ApartLemmas.{freed_none, stays_none}
use Rattle.warp_seats.proofs.laws.freed_secrets_are_none.Goals as goal

pub returns-clause-freed : goal.returns-clause-freed
returns-clause-freed c = freed_none

pub returns-clause-stays : goal.returns-clause-stays
returns-clause-stays c = stays_none
