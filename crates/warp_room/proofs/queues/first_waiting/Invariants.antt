-- Of none so far a line waits.
use Rattle.std.proofs.Common.{◌≡◌, ◌<◌, ◌≤◌, ℕ, [], Some}
use Rattle.std.specs.Prelude.{slice_get}
use Rattle.warp_room.specs.Queues.{SeatState}
use Rattle.warp_room.proofs.queues.first_waiting.Given as goal

abbrev pub invariant-loop-key : goal.invariant-loop-key
invariant-loop-key l =
    (other : ℕ) (seat : SeatState) → slice_get l.seats other ≡ Some seat → l.low ≤ other → other < l.key → seat.lines ≡ []
