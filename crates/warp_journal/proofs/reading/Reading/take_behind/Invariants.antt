-- what came so far was taken
use Rattle.std.proofs.Common.{◌≡◌, ◌≤◌, ◌-◌, ◌++◌, ℕ, List, length, take}
use Rattle.warp_record.specs.declared.record.Record.{Record}
use Rattle.warp_journal.specs.Pieces.{IsAt}
use Rattle.warp_journal.proofs.reading.Reading.take_behind.Given as goal

abbrev pub invariant-loop-text : goal.invariant-loop-text
invariant-loop-text l = record {
  few : l.at ≤ length l.bytes;
  takes : (first before : List ℕ) (given : List Record) →
      IsAt first before (given ++ l.initial.records.items) l.initial.self →
      IsAt first (before ++ take l.at l.bytes) (given ++ l.records.items) l.self;
  same : (l.self.first ≡ l.initial.self.first) × (l.self.came ≡ l.initial.self.came)
      × (l.self.lines.form ≡ l.initial.self.lines.form);
}

abbrev pub decreases-loop-text : goal.decreases-loop-text
decreases-loop-text l = length l.bytes - l.at
