-- What a reading has taken.
use Rattle.std.specs.Prelude.{◌≡◌, ◌⊎◌, ℕ, suc, ◌≤◌, ◌<◌, min, Bool, true, false, List, [], ◌++◌, length, take, Option, Some, None}
use Rattle.warp_tag.specs.declared.form.Form.{Form}
use Rattle.warp_tag.specs.Limits.{longest_line}
use Rattle.warp_record.specs.Lines.{IsOneLine}
use Rattle.warp_record.specs.declared.record.Record.{Record}
use Rattle.warp_journal.specs.declared.journal.Journal.{Journal}
use Rattle.warp_journal.specs.declared.reading.Ending.{Ending}
use Rattle.warp_journal.specs.declared.reading.Ending.TheVariants.{Whole, Torn, Cut, Damaged}
use Rattle.warp_journal.specs.declared.reading.Rest.{Rest}
use Rattle.warp_journal.specs.declared.reading.Lines.{Lines}
use Rattle.warp_journal.specs.declared.reading.Reading.{Reading}
use Rattle.warp_journal.specs.Journal.{Keeps, line_of}
use Rattle.warp_journal.specs.Reading.{AreLines, GoesOnWrong, SumsTo, most_torn}

-- so many bytes are held of a line that is not whole
abbrev pub most_held : ℕ
most_held = 129

-- this text is kept, which is a journal of these records
pub record IsKept (first text : List ℕ) (records : List Record) (at : Lines) : Type 0 where
  pub keeps : Keeps first at.journal text records
  pub kept : at.kept ≡ length text
  pub number : IsOneLine first → (more : Bool) × AreLines text at.lines more
  pub summed : SumsTo first text records at.summed.bytes at.summed.records

-- what is known of the whole lines behind those that are kept
abbrev pub IsBehind : Form → Journal → List ℕ → List ℕ → Option Rest → Type 0
IsBehind f journal text lines None = lines ≡ []
IsBehind f journal text lines (Some rest) =
    GoesOnWrong f journal text lines rest.fault
    × ((behind : ℕ) × AreLines lines (suc behind) rest.is_more × (rest.behind ≡ min behind (suc most_torn)))

-- what whole lines came: those that are kept, and those behind them
pub record IsWhole (first bytes : List ℕ) (records : List Record) (at : Lines) : Type 0 where
  pub text : List ℕ
  pub lines : List ℕ
  pub all : bytes ≡ text ++ lines
  pub is_kept : IsKept first text records at
  pub is_behind : IsBehind at.form at.journal text lines at.rest

-- what bytes came: whole lines, and a line that is not whole
pub record IsAt (first bytes : List ℕ) (records : List Record) (reading : Reading) : Type 0 where
  pub whole : List ℕ
  pub torn : List ℕ
  pub all : bytes ≡ whole ++ torn
  pub one_line : IsOneLine torn
  pub held : reading.held.items ≡ take most_held torn
  pub lines : IsWhole first whole records reading.lines

-- The reading has taken these bytes, and given these records: of the first line's bytes so many as came, and where these
-- are all, what stands behind it.
abbrev pub Reads : Form → List ℕ → List ℕ → List Record → Reading → Type 0
Reads f first bytes records reading =
    (reading.lines.form ≡ f) × (reading.first.items ≡ line_of first) × (reading.came ≤ length (line_of first))
    × ((behind : List ℕ) × (bytes ≡ take reading.came (line_of first) ++ behind)
    × ((behind ≡ []) ⊎ (reading.came ≡ length (line_of first)))
    × IsAt first (line_of first ++ behind) records reading)

-- what is said of whole lines behind those that are kept, where so many bytes are held of a torn one
abbrev pub IsSaid : Rest → ℕ → Ending → Type 0
IsSaid rest torn (Cut why) = (why ≡ rest.fault) × (rest.is_more ≡ false) × (rest.behind ≤ most_torn) × (torn ≤ longest_line)
IsSaid rest torn (Damaged why) =
    (why ≡ rest.fault) × ((rest.is_more ≡ true) ⊎ ((most_torn < rest.behind) ⊎ (longest_line < torn)))
IsSaid rest torn Whole = ⊥
IsSaid rest torn Torn = ⊥
