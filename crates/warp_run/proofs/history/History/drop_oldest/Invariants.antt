use Rattle.std.proofs.Common.{◌≤◌, ◌-◌, ◌*◌, length, take}
use Rattle.warp_run.proofs.MarksCut.{IsCutOff}
use Rattle.warp_run.proofs.history.History.drop_oldest.Given as goal

-- so many are cut off
abbrev pub invariant-loop-at : goal.invariant-loop-at
invariant-loop-at l = record {
  most : l.at ≤ l.count;
  within : l.count ≤ length l.self-inside.marks.items;
  cut : IsCutOff l.self-inside.values.width l.self-inside.marks.items l.self-inside.values.values
      (take l.self-inside.entries_used l.self-inside.entries.items) l.at (l.at * l.self-inside.values.width) l.entries;
}

abbrev pub decreases-loop-at : goal.decreases-loop-at
decreases-loop-at l = l.count - l.at
