-- What is left gives what all give.
use Rattle.std.proofs.Common.{◌≡◌, drop}
use Rattle.warp_seats.specs.Seats.{can_take, first_from, first_of}
use Rattle.warp_seats.proofs.seats.first_free.Given as goal

abbrev pub invariant-loop-seat : goal.invariant-loop-seat
invariant-loop-seat l = (first_from (can_take l.offered l.allowed) l.origin (drop l.seat-index l.seats) ≡ first_of (can_take l.offered l.allowed) l.seats) × (l.origin ≡ l.seat-index)
