-- the items so far are written
use Rattle.std.proofs.Common.{◌≡◌, length, take}
use Rattle.warp_run.proofs.lists.copy.Given as goal

abbrev pub invariant-loop-at : goal.invariant-loop-at
invariant-loop-at g l = record {
  items : take l.at l.to ≡ take l.at l.items;
  len : length l.items ≡ length l.to;
}
