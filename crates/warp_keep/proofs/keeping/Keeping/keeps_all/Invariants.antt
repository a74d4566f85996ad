use Rattle.std.proofs.Common.{ℕ, ◌<◌, IsTrue}
use Rattle.warp_keep.specs.Keeping.{keeps}
use Rattle.warp_keep.proofs.keeping.Keeping.keeps_all.Given as goal

abbrev pub invariant-loop-origin : goal.invariant-loop-origin
invariant-loop-origin l = (origin : ℕ) → origin < l.origin → IsTrue (keeps l.self origin)
