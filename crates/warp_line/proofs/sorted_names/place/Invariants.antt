use Rattle.std.proofs.Common.{◌≤◌, length}
use Rattle.std.specs.List.{prefix_len}
use Rattle.warp_tag.proofs.Names.{ahead}
use Rattle.warp_line.proofs.sorted_names.place.Given as goal

-- what was passed stands behind the front
abbrev pub invariant-loop-at : goal.invariant-loop-at
invariant-loop-at l = record { front : prefix_len (ahead l.origin l.tag) l.entries ≤ l.at; within : l.at ≤ length l.entries }

abbrev pub decreases-loop-at : goal.decreases-loop-at
decreases-loop-at l = l.at
