-- How much of the log a journal has, and of how much may be told.
use Rattle.std.specs.Prelude.{◌≡◌, ◌⊎◌, ℕ, ◌-◌, ◌==◌, ◌&&◌, Bool, true, false, not, max, nat_le, List, [], ◌∷◌, Option, Some, None, if◌then◌else◌}
use Rattle.warp_tag.specs.Limits.{last_number}
use Rattle.warp_service.specs.declared.lengths.Tells.{Tells}
use Rattle.warp_service.specs.declared.lengths.Tells.TheVariants.{All, Written, Synced}

-- Of which records may be told; the number of the journal's file, which each fresh one that takes its place has anew; how
-- many records are in it, and how many of them on the disk; since when the oldest of the others waits; whether it cannot
-- be written, and whether that is so until the end.
pub record LengthsState : Type 0 where
  pub tells : Tells
  pub file : ℕ
  pub written : ℕ
  pub synced : ℕ
  pub since : Option ℕ
  pub failing : Bool
  pub failed : Bool

-- the longest log that may be told of, where so many records are written and so many synced; without a journal, any
abbrev pub longest : Tells → ℕ → ℕ → ℕ
longest All written synced = last_number
longest Written written synced = written
longest Synced written synced = synced

-- the longest log that may be told of now
abbrev pub limit_of : LengthsState → ℕ
limit_of l = longest l.tells l.written l.synced

-- whether what is said of a file counts: it is the journal's, and it can be written
abbrev pub is_trusted : ℕ → LengthsState → Bool
is_trusted file l = (file == l.file) && not l.failing

-- so many records of the file are written
abbrev pub with_written : ℕ → ℕ → LengthsState → LengthsState
with_written file count l = record l { written = if is_trusted file l then max l.written count else l.written }

-- so many records of the file are on the disk, and so written
abbrev pub with_synced : ℕ → ℕ → LengthsState → LengthsState
with_synced file count l = record l {
  written = if is_trusted file l then max l.written count else l.written;
  synced = if is_trusted file l then max l.synced count else l.synced;
}

-- the oldest record of the file that is written and not on the disk waits since then
abbrev pub with_waiting : ℕ → Option ℕ → LengthsState → LengthsState
with_waiting file since l = record l { since = if is_trusted file l then since else l.since }

-- a fresh file of so many records, all on the disk, took the journal's place
abbrev pub replaced_by : ℕ → ℕ → LengthsState → LengthsState
replaced_by file count l = record l { file = file; written = count; synced = count; since = None; failing = false }

-- the same, unless more than that was told
abbrev pub with_fresh : ℕ → ℕ → LengthsState → LengthsState
with_fresh file count l = if nat_le (limit_of l) count then replaced_by file count l else l

-- what comes of a journal: so many records of a file are written, or on the disk; since when the oldest of the others
-- waits; the file cannot be written; a fresh one took its place; it could not be written until the end
pub data LengthStep : Type 0 where
  Wrote : ℕ → ℕ → LengthStep
  Brought : ℕ → ℕ → LengthStep
  Waited : ℕ → Option ℕ → LengthStep
  Failing : LengthStep
  Replaced : ℕ → ℕ → LengthStep
  Failed : LengthStep

-- what a step does
abbrev pub after_step : LengthStep → LengthsState → LengthsState
after_step (Wrote file count) l = with_written file count l
after_step (Brought file count) l = with_synced file count l
after_step (Waited file since) l = with_waiting file since l
after_step Failing l = record l { failing = true }
after_step (Replaced file count) l = with_fresh file count l
after_step Failed l = record l { failing = true; failed = true }

-- what steps do, one after another
abbrev pub after_steps : List LengthStep → LengthsState → LengthsState
after_steps [] l = l
after_steps (step ∷ steps) l = after_steps steps (after_step step l)

-- the step said of the file that was the journal's then, and could be written, that it has so many records, which is
-- enough to tell of them: with `Synced` on the disk
abbrev pub Says : ℕ → LengthStep → LengthsState → Type 0
Says count (Wrote file written) l = (l.tells ≡ Written) × (file ≡ l.file) × (l.failing ≡ false) × (written ≡ count)
Says count (Brought file synced) l = (file ≡ l.file) × (l.failing ≡ false) × (synced ≡ count)
Says count (Replaced file fresh) l = fresh ≡ count
Says count step l = ⊥

-- one of the steps said so
abbrev pub IsSaid : ℕ → List LengthStep → LengthsState → Type 0
IsSaid count [] l = ⊥
IsSaid count (step ∷ steps) l = Says count step l ⊎ IsSaid count steps (after_step step l)

-- for how long what waits since then has waited, where something does
abbrev pub waited : ℕ → Option ℕ → ℕ
waited now None = 0
waited now (Some since) = now - since
