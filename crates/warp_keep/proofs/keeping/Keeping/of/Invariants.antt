use Rattle.std.proofs.Common.{◌≡◌, length, take}
use Rattle.warp_keep.proofs.Flags.{AreSet}
use Rattle.warp_keep.proofs.keeping.Keeping.of.Given as goal

abbrev pub invariant-loop-origin : goal.invariant-loop-origin
invariant-loop-origin l = (length l.flags ≡ 64) × AreSet l.flags (take l.origin-index l.origins)
