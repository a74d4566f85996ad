use Rattle.std.proofs.Common.{◌≡◌, ◌≤◌, drop, take, length}
use Rattle.std.specs.Vec.{vec_items}
use Rattle.warp_table.specs.inner.Blocks.{flat}
use Rattle.warp_table.specs.inner.Heard.{count_before}
use Rattle.warp_table.proofs.tags.count_in_blocks.Given as goal

-- so many stand in the blocks that are left, and behind them none is before the tag
abbrev pub invariant-loop-at : goal.invariant-loop-at
invariant-loop-at l = record {
  within : l.at ≤ length l.blocks;
  count : l.count ≡ length (flat vec_items (take l.at l.blocks));
  behind : count_before l.tag (flat vec_items (drop l.at l.blocks)) ≡ 0;
}

abbrev pub decreases-loop-at : goal.decreases-loop-at
decreases-loop-at l = l.at
