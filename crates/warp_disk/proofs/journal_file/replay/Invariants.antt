-- So many records are taken.
use Rattle.std.proofs.Common.{◌≡◌, ◌++◌, take}
use Rattle.warp_disk.proofs.journal_file.replay.Given as goal

abbrev pub invariant-loop-record : goal.invariant-loop-record
invariant-loop-record g l = l.replica.records ≡ l.initial.replica.records ++ take l.record-index l.records
