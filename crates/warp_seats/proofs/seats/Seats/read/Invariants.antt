-- The lines of the origins that were passed were read.
use Rattle.warp_seats.proofs.ReadLemmas.{IsRead}
use Rattle.warp_seats.proofs.seats.Seats.read.Given as goal

abbrev pub invariant-loop-origin : goal.invariant-loop-origin
invariant-loop-origin l = IsRead l.offered l.now l.text l.origin l.rest l.seats
