-- the rows stay
use Rattle.std.proofs.Common.{◌≡◌, ℕ, ◌+◌, ◌-◌, length}
use Rattle.warp_table.specs.inner.NamesByOrigin.{rows_at}
use Rattle.warp_table.proofs.names.keep_up_to.Given as goal

abbrev pub invariant-loop-alloc : goal.invariant-loop-alloc
invariant-loop-alloc l = (other : ℕ) → rows_at l.origins.items other ≡ rows_at l.initial.origins.items other

abbrev pub decreases-loop-alloc : goal.decreases-loop-alloc
decreases-loop-alloc l = l.origin + 1 - length l.origins.items
