-- What is left gives what all give.
use Rattle.std.proofs.Common.{◌≡◌, drop}
use Rattle.warp_seats.specs.Seats.{first_from, first_of, holds}
use Rattle.warp_seats.proofs.seats.first_held.Given as goal

abbrev pub invariant-loop-seat : goal.invariant-loop-seat
invariant-loop-seat l = (first_from (holds l.who) l.origin (drop l.seat-index l.seats) ≡ first_of (holds l.who) l.seats) × (l.origin ≡ l.seat-index)
