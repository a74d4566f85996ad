-- So many bytes are alike.
use Rattle.std.proofs.Common.{◌≡◌, take}
use Rattle.warp_push.proofs.stretch.alike_in_front.Given as goal

abbrev pub invariant-loop-count : goal.invariant-loop-count
invariant-loop-count l = take l.count l.left ≡ take l.count l.right
