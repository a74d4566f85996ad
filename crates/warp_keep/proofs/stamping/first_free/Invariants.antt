use Rattle.std.proofs.Common.{ℕ, ◌≤◌, ◌<◌}
use Rattle.warp_table.specs.Records.{set_of}
use Rattle.warp_keep.specs.Stamps.{IsFree}
use Rattle.warp_keep.proofs.stamping.first_free.Given as goal

abbrev pub invariant-loop-micro : goal.invariant-loop-micro
invariant-loop-micro g l = (k : ℕ) → l.fn.from.microstep ≤ k → k < l.micro → IsFree (set_of l.replica.records) l.origin (record { time = l.fn.from.time; microstep = k }) → ⊥
