-- the lists so far are empty, as many as turns, with room for all
use Rattle.std.proofs.Common.{◌≡◌, [], replicate, vec_capacity, vec_len}
use Rattle.warp_step.specs.inner.Room.{lists_of}
use Rattle.warp_step.proofs.one_step.empty_wishes.Given as goal

abbrev pub invariant-loop : goal.invariant-loop
invariant-loop l = record {
  none : lists_of l.lists.items ≡ replicate l.counter [];
  len : vec_len l.lists ≡ l.counter;
  room : vec_capacity l.lists ≡ l.count;
}
