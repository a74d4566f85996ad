-- What is so far, and what is left, are the same exactly if all are.
use Rattle.std.proofs.Common.{◌≡◌, ◌&&◌, drop}
use Rattle.std.specs.Str.{bytes_eq}
use Rattle.warp_seats.proofs.seat.is_same.Given as goal

abbrev pub invariant-loop-place : goal.invariant-loop-place
invariant-loop-place l = (l.same && bytes_eq (drop l.place l.left) (drop l.place l.right)) ≡ bytes_eq l.left l.right
