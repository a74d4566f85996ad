use Rattle.warp_seats.proofs.ApartLemmas.{grows}
use Rattle.warp_seats.proofs.laws.generations_grow.Goals as goal

pub returns-clause-grows : goal.returns-clause-grows
returns-clause-grows c = grows
