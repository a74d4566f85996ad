use Rattle.std.proofs.Common.{◌≡◌, ◌-◌, ◌≤◌, take, vec_len}
use Rattle.warp_run.proofs.lists.fill.Given as goal

-- what was there is in front
abbrev pub invariant-loop-list : goal.invariant-loop-list
invariant-loop-list g l = record {
  front : take (vec_len l.fn.list) l.list.items ≡ l.fn.list.items;
  more : vec_len l.fn.list ≤ vec_len l.list;
  most : vec_len l.list ≤ l.len;
}

abbrev pub decreases-loop-list : goal.decreases-loop-list
decreases-loop-list g l = l.len - vec_len l.list
