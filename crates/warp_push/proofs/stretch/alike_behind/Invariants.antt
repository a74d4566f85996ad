-- So many bytes are alike.
use Rattle.std.proofs.Common.{◌≡◌, ◌-◌, drop, length}
use Rattle.warp_push.proofs.stretch.alike_behind.Given as goal

abbrev pub invariant-loop-count : goal.invariant-loop-count
invariant-loop-count l = drop (length l.left - l.count) l.left ≡ drop (length l.right - l.count) l.right
