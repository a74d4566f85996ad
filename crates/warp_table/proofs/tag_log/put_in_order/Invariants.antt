-- what is left, put in one after another, gives what all of it gives
use Rattle.std.proofs.Common.{◌≡◌, ◌-◌, ◌≤◌, [], drop, length}
use Rattle.warp_table.specs.inner.Heard.{with_tags}
use Rattle.warp_table.proofs.tag_log.put_in_order.Given as goal

abbrev pub invariant-loop-placed : goal.invariant-loop-placed
invariant-loop-placed l = record {
  within : l.placed ≤ length l.came;
  same : with_tags (drop l.placed l.came) l.in_order ≡ with_tags l.came [];
}

abbrev pub decreases-loop-placed : goal.decreases-loop-placed
decreases-loop-placed l = length l.came - l.placed
