use Rattle.std.proofs.Common.{◌≡◌, ◌+◌, ◌≤◌, ◌++◌, drop, length, vec_capacity, vec_len}
use Rattle.warp_lanes.proofs.draining.copy_all.Given as goal

abbrev pub invariant-loop-answer : goal.invariant-loop-answer
invariant-loop-answer l =
    (l.handed.items ++ drop l.answer-index l.last ≡ l.initial.handed.items ++ l.last)
    × (vec_len l.handed + length (drop l.answer-index l.last) ≤ vec_capacity l.handed)
