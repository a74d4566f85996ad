-- The first so far, or of those that are left, is the first of all.
use Rattle.std.proofs.Common.{◌≡◌, ◌≤◌, drop, min}
use Rattle.warp_seats.specs.Seats.{never, soonest}
use Rattle.warp_seats.proofs.seats.soonest.Given as goal

abbrev pub invariant-loop-seat : goal.invariant-loop-seat
invariant-loop-seat l = (min l.first (soonest l.timeout (drop l.seat-index l.seats)) ≡ soonest l.timeout l.seats) × (l.first ≤ never)
