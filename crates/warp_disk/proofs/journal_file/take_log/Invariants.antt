-- So many records of the log are taken.
use Rattle.std.proofs.Common.{◌++◌, ℕ, List, take}
use Rattle.warp_record.specs.declared.record.Record.{Record}
use Rattle.warp_journal.specs.Keeping.{KeepsAll}
use Rattle.warp_disk.proofs.journal_file.take_log.Given as goal

abbrev pub invariant-loop-place : goal.invariant-loop-place
invariant-loop-place g l = (first : List ℕ) (records : List Record) → KeepsAll g.D.Disk.written first l.initial.fresh records →
    KeepsAll g.D.Disk.written first l.fresh (records ++ take l.place l.replica.records)
