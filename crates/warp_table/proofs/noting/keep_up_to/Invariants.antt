-- what is heard stays, and no announcer comes past the origin
use Rattle.std.proofs.Common.{◌≡◌, ℕ, ◌+◌, ◌-◌, ◌≤◌, length}
use Rattle.warp_tag.specs.Limits.{most_origins, widest}
use Rattle.warp_table.specs.inner.Heard.{heard_at}
use Rattle.warp_table.proofs.noting.keep_up_to.Given as goal

abbrev pub invariant-loop-alloc : goal.invariant-loop-alloc
invariant-loop-alloc l = record {
  few : length l.announcers.items ≤ most_origins widest;
  same : (other : ℕ) → heard_at l.announcers.items other ≡ heard_at l.initial.announcers.items other;
}

abbrev pub decreases-loop-alloc : goal.decreases-loop-alloc
decreases-loop-alloc l = l.origin + 1 - length l.announcers.items
