use Rattle.std.proofs.Common.{◌≡◌, ◌+◌, ◌≤◌, ◌++◌, length, vec_capacity, vec_len}
use Rattle.rtrb.specs.Ring.{known_items}
use Rattle.warp_lanes.proofs.draining.fetch_all.Given as goal

abbrev pub invariant-loop-answers : goal.invariant-loop-answers
invariant-loop-answers l =
    (l.handed.items ++ known_items l.answers ≡ l.initial.handed.items ++ known_items l.initial.answers)
    × (vec_len l.handed + length (known_items l.answers) ≤ vec_capacity l.handed)
    × (vec_capacity l.handed ≡ vec_capacity l.initial.handed)

abbrev pub decreases-loop-answers : goal.decreases-loop-answers
decreases-loop-answers l = length (known_items l.answers)
