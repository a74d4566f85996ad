-- What reading the bytes of a journal keeps of them, what is said of the rest, and what a repair keeps.
use Rattle.std.specs.Prelude.{◌≡◌, ◌≢◌, ◌⊎◌, ℕ, suc, ◌≤◌, ◌<◌, ◌==◌, nat_lt, Bool, true, false, ◌||◌, List, [], ◌∷◌, ◌++◌, length, take, drop, Option, Some, None}
use Rattle.warp_tag.specs.declared.form.Form.{Form}
use Rattle.warp_tag.specs.Limits.{longest_line}
use Rattle.warp_record.specs.Lines.{IsOneLine}
use Rattle.warp_record.specs.Record.{record_spelling}
use Rattle.warp_record.specs.declared.record.Record.{Record}
use Rattle.warp_journal.specs.declared.journal.Fault.{Fault}
use Rattle.warp_journal.specs.declared.journal.Fault.TheVariants as fault
use Rattle.warp_journal.specs.declared.journal.Journal.{Journal}
use Rattle.warp_journal.specs.declared.reading.Ending.{Ending}
use Rattle.warp_journal.specs.declared.reading.Ending.TheVariants.{Whole, Torn, Cut, Damaged}
use Rattle.warp_journal.specs.declared.reading.Found.{Found}
use Rattle.warp_journal.specs.declared.reading.Front.{Front}
use Rattle.warp_journal.specs.Journal.{IsWrong, Keeps, line_of, sum_text, tells_seconds}

-- of a batch that is torn so many lines may stand behind the one that does not go on
abbrev pub most_torn : ℕ
most_torn = 1024

-- the text has an equals sign, as each sum has and no record
unfoldable pub has_equals : List ℕ → Bool
has_equals [] = false
has_equals (byte ∷ text) = (byte == 61) || has_equals text

-- no torn batch has a whole line of this text: a sum may stand in it, or it is longer than a line may be
abbrev pub shows_more : List ℕ → Bool
shows_more text = has_equals text || nat_lt longest_line (length text)

-- The bytes are so many whole lines, and whether one of them is in no torn batch.
pub data AreLines : List ℕ → ℕ → Bool → Type 0 where
  NoLine : AreLines [] 0 false
  OneMore : (lines text : List ℕ) (count : ℕ) (more : Bool) → AreLines lines count more → IsOneLine text →
      AreLines (lines ++ line_of text) (suc count) (more || shows_more text)

-- The bytes begin with a whole line that goes on with no journal of this form behind what this one has, for this reason.
abbrev pub GoesOnWrong : Form → Journal → List ℕ → List ℕ → Fault → Type 0
GoesOnWrong f journal before bytes why =
    (text behind : List ℕ) × (bytes ≡ line_of text ++ behind)
    × IsWrong f journal.tells_seconds journal.count before text why

-- The bytes are whole lines, of which this is known, and perhaps a line that is not whole.
abbrev pub IsRestOf : (ℕ → Bool → ℕ → Type 0) → List ℕ → Type 0
IsRestOf known bytes =
    (lines torn : List ℕ) × (behind : ℕ) × (more : Bool) × (bytes ≡ lines ++ torn) × AreLines lines (suc behind) more
    × IsOneLine torn × known behind more (length torn)

-- No more than a torn batch is: no whole line of it has an equals sign, none is longer than a line may be, also not the torn one,
-- and at most 1,024 stand behind the first.
abbrev pub IsTornBatch : ℕ → Bool → ℕ → Type 0
IsTornBatch behind more torn = (more ≡ false) × (behind ≤ most_torn) × (torn ≤ longest_line)

-- more is than a torn batch
abbrev pub IsMore : ℕ → Bool → ℕ → Type 0
IsMore behind more torn = (more ≡ true) ⊎ ((most_torn < behind) ⊎ (longest_line < torn))

-- The bytes are a torn line that is longer than a line may be, and so go on with no journal, for this reason.
abbrev pub IsLong : Form → Journal → List ℕ → List ℕ → Fault → Type 0
IsLong f journal before bytes why =
    IsOneLine bytes × (longest_line < length bytes) × IsWrong f journal.tells_seconds journal.count before bytes why

-- what is said of the bytes behind those that are kept
abbrev pub IsRest : Form → Journal → List ℕ → List ℕ → Ending → Type 0
IsRest f journal before rest Whole = rest ≡ []
IsRest f journal before rest Torn = (rest ≢ []) × IsOneLine rest × (length rest ≤ longest_line)
IsRest f journal before rest (Cut why) = GoesOnWrong f journal before rest why × IsRestOf IsTornBatch rest
IsRest f journal before rest (Damaged why) =
    (GoesOnWrong f journal before rest why × IsRestOf IsMore rest) ⊎ IsLong f journal before rest why

-- The text is a journal of these records. Up to its last sum, or where it has none its first line, it has so many bytes
-- and so many records.
pub data SumsTo (first : List ℕ) : List ℕ → List Record → ℕ → ℕ → Type 0 where
  Begun : SumsTo first (line_of first) [] (length (line_of first)) 0
  More : (text : List ℕ) (records : List Record) (said : Record) (bytes count : ℕ) → SumsTo first text records bytes count →
      SumsTo first (text ++ line_of (record_spelling said)) (records ++ said ∷ []) bytes count
  Summed : (text : List ℕ) (records : List Record) (second bytes count : ℕ) → SumsTo first text records bytes count →
      SumsTo first (text ++ line_of (sum_text (tells_seconds first) (length records) text second)) records
      (length (text ++ line_of (sum_text (tells_seconds first) (length records) text second))) (length records)

-- So many of the bytes are kept, whole lines all of them: they are a journal of these records, which may go on, its last
-- sum ends where that is told, and the rest is as it is said to be.
pub record IsRead (f : Form) (first bytes : List ℕ) (records : List Record) (found : Found) : Type 0 where
  pub few : found.kept ≤ length bytes
  pub keeps : Keeps first found.journal (take found.kept bytes) records
  pub lines : IsOneLine first → (more : Bool) × AreLines (take found.kept bytes) found.lines more
  pub summed : SumsTo first (take found.kept bytes) records found.summed.bytes found.summed.records
  pub rest : IsRest f found.journal (take found.kept bytes) (drop found.kept bytes) found.ending

-- What a repair keeps of bytes of which these records were read: the lines that are kept; and where the line behind them
-- is a sum that does not fit, those up to the last one that does.
abbrev pub IsRepaired : List ℕ → List ℕ → List Record → Ending → Front → Type 0
IsRepaired first text records (Damaged fault.WrongSum) kept = SumsTo first text records kept.bytes kept.records
IsRepaired first text records (Cut fault.WrongSum) kept = SumsTo first text records kept.bytes kept.records
IsRepaired first text records ending kept = (kept.bytes ≡ length text) × (kept.records ≡ length records)

-- why a journal is damaged that ends so, if it is
abbrev pub damage_of : Ending → Option Fault
damage_of (Damaged why) = Some why
damage_of Whole = None
damage_of Torn = None
damage_of (Cut why) = None
