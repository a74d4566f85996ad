use Rattle.std.proofs.Common.{◌≡◌, ◌⊎◌, ◌<◌, ◌≤◌, ◌-◌, Vec, Global, length, false, true, get_or}
use Rattle.warp_table.specs.inner.Blocks.{begins_beyond}
use Rattle.warp_table.proofs.blocks.block_by_halves.Given as goal

-- the block of the tag is from the one on, and before the other
abbrev pub invariant-loop-high : goal.invariant-loop-high
invariant-loop-high g l = record {
  within : l.low < l.high;
  bound : l.high ≤ length l.blocks;
  passed : (d : Vec g.row.T.Denot Global) → (l.low ≡ 0) ⊎ (begins_beyond g.T.Tagged.tag_of l.tag (get_or l.blocks l.low d).items ≡ false);
  beyond : (d : Vec g.row.T.Denot Global) → l.high < length l.blocks → begins_beyond g.T.Tagged.tag_of l.tag (get_or l.blocks l.high d).items ≡ true;
}

abbrev pub decreases-loop-high : goal.decreases-loop-high
decreases-loop-high g l = l.high - l.low
