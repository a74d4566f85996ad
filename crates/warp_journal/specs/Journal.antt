-- What the text of a journal is: a first line, then a line for each record of a log, in its order, with lines of sums between
-- them.
use Rattle.std.specs.Prelude.{◌≡◌, ◌⊎◌, ◌<◌, ◌≤◌, ◌^◌, ◌+◌, ◌%◌, ◌==◌, if◌then◌else◌, Bool, true, false, ℕ, List, [], ◌∷◌, ◌++◌}
use Rattle.std.specs.Prelude.{codes, decimal, length, take, Option, Some, None, bytes_eq}
use Rattle.hex.specs.Hex.{encode_lower}
use Rattle.sha2.specs.Sha256.{sha256}
use Rattle.sha2.specs.Hashers.{Holds256}
use Rattle.warp_record.specs.declared.record.Record.{Record}
use Rattle.warp_tag.specs.declared.form.Form.{Form}
use Rattle.warp_tag.specs.Limits.{longest_line}
use Rattle.warp_record.specs.Record.{IsRecord, record_spelling}
use Rattle.warp_journal.specs.declared.journal.Journal.{Journal}
use Rattle.warp_journal.specs.declared.journal.Fault.{Fault}
use Rattle.warp_journal.specs.declared.journal.Fault.TheVariants as fault

-- the most records of a journal
abbrev pub most_written : ℕ
most_written = 4000000000

-- a sum stands behind each so many records
abbrev pub most_unsummed : ℕ
most_unsummed = 1024

-- the text of a first line, without its line feed: the version of the program's file, and the program's fingerprint
abbrev pub first_text : ℕ → List ℕ → List ℕ
first_text version fingerprint = codes "warpd journal 2 " ++ decimal version ++ codes " " ++ fingerprint

-- so in form 1
abbrev pub old_first_text : ℕ → List ℕ → List ℕ
old_first_text version fingerprint = codes "warpd journal 1 " ++ decimal version ++ codes " " ++ fingerprint

-- whether the sums of a journal with this first line tell when they were written, which are those of form 2
abbrev pub tells_seconds : List ℕ → Bool
tells_seconds first = bytes_eq (codes "warpd journal 2 ") (take 16 first)

-- the text of a sum of form 1, without its line feed: how many records stand before it, and the digest of all that stands
-- before it
abbrev pub plain_sum : ℕ → List ℕ → List ℕ
plain_sum count before = codes "= " ++ decimal count ++ codes " " ++ encode_lower (sha256 before)

-- that text, and the second of UTC at which it was written where it tells that
abbrev pub with_second : Bool → List ℕ → ℕ → List ℕ
with_second false plain second = plain
with_second true plain second = plain ++ (codes " " ++ decimal second)

-- the text of a sum, without its line feed
abbrev pub sum_text : Bool → ℕ → List ℕ → ℕ → List ℕ
sum_text seconds count before second = with_second seconds (plain_sum count before) second

-- a line: its text, and a line feed
abbrev pub line_of : List ℕ → List ℕ
line_of text = text ++ 10 ∷ []

-- the text of a line begins as that of a sum does
abbrev pub begins_sum : List ℕ → Bool
begins_sum text = bytes_eq (codes "= ") (take 2 text)

-- The text is a journal of these records that begins with this line: it has that line alone; or a shorter one, and
-- behind that a record's line or the line of a sum.
pub data IsJournal (first : List ℕ) : List ℕ → List Record → Type 0 where
  Begun : IsJournal first (line_of first) []
  More : (text : List ℕ) (records : List Record) (said : Record) → IsJournal first text records →
      IsJournal first (text ++ line_of (record_spelling said)) (records ++ said ∷ [])
  Summed : (text : List ℕ) (records : List Record) (second : ℕ) → IsJournal first text records →
      IsJournal first (text ++ line_of (sum_text (tells_seconds first) (length records) text second)) records

-- so much is kept of a journal: its text's sum so far, how many records it has, and whether its sums tell seconds
pub record Keeps (first : List ℕ) (journal : Journal) (text : List ℕ) (records : List Record) : Type 0 where
  pub is_journal : IsJournal first text records
  pub sum : Holds256 journal.sum text
  pub count : journal.count ≡ length records
  pub seconds : journal.tells_seconds ≡ tells_seconds first

-- what a record adds to a journal of this text and so many records: its line; and where it is the last of 1,024, a sum
-- of this second
abbrev pub added : List ℕ → List ℕ → ℕ → Record → ℕ → List ℕ
added first text count said second =
    if (count + 1) % most_unsummed == 0
    then line_of (record_spelling said)
    ++ line_of (sum_text (tells_seconds first) (count + 1) (text ++ line_of (record_spelling said)) second)
    else line_of (record_spelling said)

-- Behind this text, which has so many records, the text of a line, without its line feed, goes on with a journal of this
-- form: it is that of the sum, of whatever second, or a record's.
abbrev pub IsNext : Form → Bool → ℕ → List ℕ → List ℕ → Option Record → Type 0
IsNext f seconds count before text None = (second : ℕ) × (second < 2 ^ 64) × (text ≡ sum_text seconds count before second)
IsNext f seconds count before text (Some said) = IsRecord f said × (text ≡ record_spelling said)

-- The line does not go on with a journal so, for this reason. One of more than 128 bytes is none of a journal's.
abbrev pub IsWrong : Form → Bool → ℕ → List ℕ → List ℕ → Fault → Type 0
IsWrong f seconds count before text fault.NoRecord =
    (longest_line < length text ⊎ ((found : Option Record) → ¬ IsNext f seconds count before text found))
    × (begins_sum text ≡ false)
IsWrong f seconds count before text fault.WrongSum =
    (longest_line < length text ⊎ ((found : Option Record) → ¬ IsNext f seconds count before text found))
    × (begins_sum text ≡ true)
IsWrong f seconds count before text fault.TooMany =
    (most_written ≤ count) × ((said : Record) × IsRecord f said × (text ≡ record_spelling said))
IsWrong f seconds count before text fault.NoMemory = ⊥

-- the records, and one more if there is one
abbrev pub with_found : List Record → Option Record → List Record
with_found records None = records
with_found records (Some said) = records ++ said ∷ []

-- for a proof alone: the fault of a line that goes on with no journal says whether it begins as a sum does
abbrev pub IsFaultOf : List ℕ → Fault → Type 0
IsFaultOf text fault.NoRecord = begins_sum text ≡ false
IsFaultOf text fault.WrongSum = begins_sum text ≡ true
IsFaultOf text fault.TooMany = ⊥
IsFaultOf text fault.NoMemory = ⊥
