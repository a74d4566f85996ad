-- As many as there are places, and only such as nobody has had were made.
use Rattle.std.proofs.Common.{◌≡◌, length}
use Rattle.warp_push.specs.Seats.{Grows}
use Rattle.warp_push.proofs.places.grow.Given as goal

abbrev pub invariant-loop-at : goal.invariant-loop-at
invariant-loop-at l = (length l.all.items ≡ l._at) × Grows l.initial.all.items l.all.items
