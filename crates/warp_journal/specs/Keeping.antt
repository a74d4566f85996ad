-- What a journal's file has, and what of it is on the disk.
use Rattle.std.specs.Prelude.{ℕ, List, ◌++◌, Option, IfSome, ◌≡◌, length}
use Rattle.warp_record.specs.declared.record.Record.{Record}
use Rattle.warp_journal.specs.declared.journal.Journal.{Journal}
use Rattle.warp_journal.specs.declared.keeping.Keeper.{Keeper}
use Rattle.warp_journal.specs.Journal.{IsJournal, Keeps}

-- a file that tells its bytes has this journal of these records
abbrev pub IsBegun : List ℕ → Option (List ℕ) → Journal → List Record → Type 0
IsBegun first written journal records = IfSome written (λ text. Keeps first journal text records)

-- of a file that tells its bytes: with the lines that wait they are a journal of these records
abbrev pub KeepsAll : {D : Type 0} → (D → Option (List ℕ)) → List ℕ → Keeper D → List Record → Type 0
KeepsAll written first keeper records =
    IfSome (written keeper.disk) (λ text. Keeps first keeper.journal (text ++ keeper.waiting.items) records)

-- what a file that tells its bytes has, or a disk, is a journal of these records, which are so many
abbrev pub OnDisk : List ℕ → Option (List ℕ) → ℕ → List Record → Type 0
OnDisk first told count records = IfSome told (λ text. IsJournal first text records × (count ≡ length records))
