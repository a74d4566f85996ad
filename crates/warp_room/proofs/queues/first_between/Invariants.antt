-- None so far has a turn.
use Rattle.std.proofs.Common.{◌≡◌, ◌<◌, ◌≤◌, ℕ, false}
use Rattle.warp_room.specs.Queues.{has_turn}
use Rattle.warp_room.proofs.queues.first_between.Given as goal

abbrev pub invariant-loop-key : goal.invariant-loop-key
invariant-loop-key l = (other : ℕ) → l.from ≤ other → other < l.key → has_turn l.all l.seats other ≡ false
