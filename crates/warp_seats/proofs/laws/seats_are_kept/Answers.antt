use Rattle.warp_seats.proofs.SeatLemmas.{kept, due}
use Rattle.warp_seats.proofs.laws.seats_are_kept.Goals as goal

pub returns-clause-kept : goal.returns-clause-kept
returns-clause-kept c = kept

pub returns-clause-due : goal.returns-clause-due
returns-clause-due c = due
