-- What is left gives what all give.
use Rattle.std.proofs.Common.{◌≡◌, drop}
use Rattle.warp_seats.specs.Seats.{first_from, first_of, is_over}
use Rattle.warp_seats.proofs.seats.first_expired.Given as goal

abbrev pub invariant-loop-seat : goal.invariant-loop-seat
invariant-loop-seat l = (first_from (is_over l.now l.timeout) l.origin (drop l.seat-index l.seats) ≡ first_of (is_over l.now l.timeout) l.seats) × (l.origin ≡ l.seat-index)
