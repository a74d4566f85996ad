-- How much of a log may be told, beside its journal.
use Rattle.std.specs.Prelude.{◌≡◌, ◌⊎◌, ℕ, ◌*◌, ◌/◌, List, Option, Some, None, IfSome}
use Rattle.std.specs.Duration.{as_nanos, max_nanos}
use Rattle.std.specs.declared.time.Duration.{Duration}
use Rattle.warp_record.specs.declared.record.Record.{Record}
use Rattle.warp_journal.specs.declared.keeping.Keeper.{Keeper}
use Rattle.warp_journal.specs.Journal.{IsJournal}
use Rattle.warp_disk.specs.declared.durable.Durable.{Durable}
use Rattle.warp_disk.specs.declared.journal_faults.FileFault.{FileFault}
use Rattle.warp_disk.specs.declared.journal_faults.FileFault.TheVariants.{Open, System}
use Rattle.warp_disk.specs.declared.journal_faults.OpenFault.{OpenFault}
use Rattle.warp_disk.specs.declared.journal_faults.OpenFault.TheVariants.{NoMemory, Unusable}
use Rattle.warp_disk.specs.declared.journal_file.OpenJournal.{OpenJournal}
use Rattle.warp_tag.specs.Limits.{last_number}
use Rattle.warp_disk.specs.declared.durable.Tells.{Tells}
use Rattle.warp_disk.specs.declared.durable.Tells.TheVariants.{All, Written, Synced}
use Rattle.warp_disk.specs.declared.journal_file.SyncWhen.{SyncWhen}
use Rattle.warp_disk.specs.declared.journal_file.SyncWhen.TheVariants.{Always, Every, Never}

-- the longest log that may be told of, where so many records are written and so many synced; without a journal, any
abbrev pub longest : Tells → ℕ → ℕ → ℕ
longest All written synced = last_number
longest Written written synced = written
longest Synced written synced = synced

-- of which records may be told: with `always` of those on the disk, else of those that were handed to the system
abbrev pub told_with : SyncWhen → Tells
told_with Always = Synced
told_with (Every milliseconds) = Written
told_with Never = Written

-- of which records is told what threads share for a journal
abbrev pub tells_of : Durable → Tells
tells_of durable = durable.tells

-- of which records may be told beside this journal; without one of all
abbrev pub told_beside : Option OpenJournal → Tells
told_beside None = All
told_beside (Some journal) = told_with journal.when

-- how many records of the log this journal has
abbrev pub kept_in : Option OpenJournal → ℕ
kept_in None = 0
kept_in (Some journal) = journal.keeper.journal.count

-- what is on the disk of a file that tells that is a journal of these records
abbrev pub IsSynced : {D : Type 0} → (D → Option (List ℕ)) → List ℕ → Keeper D → List Record → Type 0
IsSynced synced first keeper records = IfSome (synced keeper.disk) (λ text. IsJournal first text records)

-- what is wrong with a file, without what the system says
abbrev pub IsToldAs : FileFault → OpenFault → Type 0
IsToldAs (Open why) told = told ≡ why
IsToldAs (System error) told = (told ≡ NoMemory) ⊎ (told ≡ Unusable)
IsToldAs fault told = told ≡ Unusable

-- a moment of the clock, or a span of time, in milliseconds
abbrev pub millis_of : Duration → ℕ
millis_of moment = as_nanos moment / 1000000

-- what is noted where nothing waits
abbrev pub nothing_waits : ℕ
nothing_waits = 18446744073709551615

-- so long a record may wait to be brought to the disk
abbrev pub IsInterval : SyncWhen → Duration → Type 0
IsInterval Always interval = as_nanos interval ≡ 0
IsInterval (Every milliseconds) interval = as_nanos interval ≡ milliseconds * 1000000
IsInterval Never interval = as_nanos interval ≡ max_nanos
