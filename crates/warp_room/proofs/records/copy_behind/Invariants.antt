-- What is there and what is left of the piece is all of it; and there is room for that.
use Rattle.std.proofs.Common.{◌≡◌, ◌+◌, ◌-◌, ◌≤◌, ◌++◌, drop, take, vec_capacity, vec_len}
use Rattle.warp_room.proofs.records.copy_behind.Given as goal

abbrev pub invariant-loop-index : goal.invariant-loop-index
invariant-loop-index g l =
    (l.list.items ++ take (l.end - l.index) (drop l.index l.replica.records)
    ≡ l.initial.list.items ++ take l.left (drop l.count l.replica.records))
    × (vec_len l.list + (l.end - l.index) ≤ vec_capacity l.list)
