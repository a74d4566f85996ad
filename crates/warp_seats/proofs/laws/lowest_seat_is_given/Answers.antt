use Rattle.warp_seats.proofs.ApartLemmas.{free_can, free_lowest, free_none, join_sends}
use Rattle.warp_seats.proofs.laws.lowest_seat_is_given.Goals as goal

pub returns-clause-free : goal.returns-clause-free
returns-clause-free c = free_can

pub returns-clause-lowest : goal.returns-clause-lowest
returns-clause-lowest c = free_lowest

pub returns-clause-none : goal.returns-clause-none
returns-clause-none c = free_none

pub returns-clause-sends : goal.returns-clause-sends
returns-clause-sends c = join_sends
