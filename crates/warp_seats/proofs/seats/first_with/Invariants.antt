-- What is left gives what all give.
use Rattle.std.proofs.Common.{◌≡◌, drop}
use Rattle.warp_seats.specs.Seats.{first_from, first_of, has_digest}
use Rattle.warp_seats.proofs.seats.first_with.Given as goal

abbrev pub invariant-loop-seat : goal.invariant-loop-seat
invariant-loop-seat l = (first_from (has_digest l.digest) l.origin (drop l.seat-index l.seats) ≡ first_of (has_digest l.digest) l.seats) × (l.origin ≡ l.seat-index)
