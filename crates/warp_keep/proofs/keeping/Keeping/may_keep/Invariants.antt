use Rattle.std.proofs.Common.{ℕ, ◌<◌, IsTrue}
use Rattle.warp_table.specs.Records.{set_of}
use Rattle.warp_keep.specs.Judging.{MayBeKept}
use Rattle.warp_keep.specs.Keeping.{keeps}
use Rattle.warp_keep.proofs.keeping.Keeping.may_keep.Given as goal

abbrev pub invariant-loop-origin : goal.invariant-loop-origin
invariant-loop-origin g l = (origin : ℕ) → origin < l.origin → IsTrue (keeps l.self origin) → MayBeKept (set_of l.replica.records) origin
