use Rattle.std.proofs.Common.{◌≡◌, ◌+◌, ◌++◌, drop, vec_len, vec_capacity}
use Rattle.warp_run.proofs.lists.append.Given as goal

-- what is there, and what is left, is all
abbrev pub invariant-loop-item : goal.invariant-loop-item
invariant-loop-item g l = record {
  items : l.list.items ++ drop l.item-index l.items ≡ l.fn.list.items ++ l.items;
  len : vec_len l.list ≡ vec_len l.fn.list + l.item-index;
  capacity : vec_capacity l.list ≡ vec_capacity l.fn.list;
}
