use Rattle.std.proofs.Common.{◌≡◌, ◌<◌, ◌≤◌, ◌-◌, [], false, get_or, length, take, true}
use Rattle.std.specs.List.{All, list_any}
use Rattle.warp_tag.specs.Moment.{is_before}
use Rattle.warp_table.specs.inner.Tally.{all_of}
use Rattle.warp_table.proofs.announced.first_by_halves.Given as goal

-- in front of the one none is beyond the tag, and the other has one
abbrev pub invariant-loop-low : goal.invariant-loop-low
invariant-loop-low l = record {
  within : l.low ≤ l.high;
  bound : l.high ≤ length l.blocks;
  none : All (λ t. is_before l.tag t.tag ≡ false) (all_of (take l.low l.blocks));
  some : l.high < length l.blocks → list_any (λ t. is_before l.tag t.tag) (get_or l.blocks l.high []) ≡ true;
}

abbrev pub decreases-loop-low : goal.decreases-loop-low
decreases-loop-low l = l.high - l.low
