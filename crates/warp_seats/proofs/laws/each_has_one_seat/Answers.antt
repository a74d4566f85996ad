use Rattle.warp_seats.proofs.ApartLemmas.{fresh_apart, stays_apart}
use Rattle.warp_seats.proofs.laws.each_has_one_seat.Goals as goal

pub returns-clause-fresh : goal.returns-clause-fresh
returns-clause-fresh c = fresh_apart

pub returns-clause-stays : goal.returns-clause-stays
returns-clause-stays c = stays_apart
