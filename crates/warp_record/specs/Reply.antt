-- The replies, their ranges by form, and the one spelling of each.
use Rattle.std.specs.Prelude.{ℕ, Bool, true, false, ◌<◌, ◌≤◌, List, [], ◌∷◌, ◌++◌, codes, decimal, FitsSigned}
use Rattle.std.specs.Int.{w64}
use Rattle.std.specs.Fmt.{signed_decimal}
use Rattle.std.specs.List.{join_with_byte}
use Rattle.warp_tag.specs.Limits.{most_records, most_outputs, most_rows, greatest_count}
use Rattle.warp_tag.specs.Moment.{IsTagOf}
use Rattle.warp_tag.specs.declared.form.Form.{Form}
use Rattle.warp_tag.specs.declared.out.Out.{Out}
use Rattle.warp_record.specs.Record.{IsRecord, record_words, tag_words}
use Rattle.warp_record.specs.declared.reply.Refusal.{Refusal}
use Rattle.warp_record.specs.declared.reply.Refusal.TheVariants.{Syntax, NoOrigin, PastStop, NoInput, NotYours, NoVar, LogFull, NoMemory, TooLong, Busy, NoBoard}
use Rattle.warp_record.specs.declared.reply.Reply.{Reply}
use Rattle.warp_record.specs.declared.reply.Reply.TheVariants.{Taken, Known, Refused, Var, Outputs, Output, Nothing, Horizon, Released, Lost, Breach, Log, Collected, Board, Row, NoRow}

-- the number of a refusal
abbrev pub refusal_number : Refusal → ℕ
refusal_number Syntax = 1
refusal_number NoOrigin = 2
refusal_number PastStop = 3
refusal_number NoInput = 4
refusal_number NotYours = 5
refusal_number NoVar = 6
refusal_number LogFull = 7
refusal_number NoMemory = 8
refusal_number TooLong = 9
refusal_number Busy = 10
refusal_number NoBoard = 11

-- a place of the log in a form
abbrev pub IsPlace : Form → ℕ → Type 0
IsPlace f place = (1 ≤ place) × (place ≤ most_records f)

-- the length of a log in a form
abbrev pub IsLength : Form → ℕ → Type 0
IsLength f log = log ≤ most_records f

-- the ranges of an output in a form
pub record IsOut (f : Form) (out : Out) : Type 0 where
  pub tag_fits : IsTagOf f out.tag
  pub port_fits : out.port < most_outputs f
  pub value_fits : FitsSigned w64 out.value

-- the ranges of a reply in a form
abbrev pub IsReply : Form → Reply → Type 0
IsReply f (Taken place) = IsPlace f place
IsReply f (Known place) = IsPlace f place
IsReply f (Refused refusal) = Unit {0}
IsReply f (Var log value) = IsLength f log × FitsSigned w64 value
IsReply f (Outputs log count) = IsLength f log × (count ≤ greatest_count)
IsReply f (Output log out) = IsLength f log × IsOut f out
IsReply f (Nothing log) = IsLength f log
IsReply f (Horizon log tag) = IsLength f log × IsTagOf f tag
IsReply f (Released log count) = IsLength f log × (count ≤ greatest_count)
IsReply f (Lost log count) = IsLength f log × (count ≤ greatest_count)
IsReply f (Breach log broken) = IsLength f log
IsReply f (Log log said) = IsLength f log × IsRecord f said
IsReply f (Collected log) = IsLength f log
IsReply f (Board count frozen) = count ≤ most_rows f
IsReply f (Row out) = IsOut f out
IsReply f NoRow = Unit {0}

-- the words of an output
abbrev pub out_words : Out → List (List ℕ)
out_words out = tag_words out.tag ++ decimal out.port ∷ signed_decimal out.value ∷ []

-- the word of a flag
abbrev pub flag_word : Bool → List ℕ
flag_word true = codes "1"
flag_word false = codes "0"

-- the words of a reply
abbrev pub reply_words : Reply → List (List ℕ)
reply_words (Taken place) = codes "taken" ∷ decimal place ∷ []
reply_words (Known place) = codes "known" ∷ decimal place ∷ []
reply_words (Refused refusal) = codes "refused" ∷ decimal (refusal_number refusal) ∷ []
reply_words (Var log value) = codes "var" ∷ decimal log ∷ signed_decimal value ∷ []
reply_words (Outputs log count) = codes "outputs" ∷ decimal log ∷ decimal count ∷ []
reply_words (Output log out) = codes "output" ∷ decimal log ∷ out_words out
reply_words (Nothing log) = codes "none" ∷ decimal log ∷ []
reply_words (Horizon log tag) = codes "horizon" ∷ decimal log ∷ tag_words tag
reply_words (Released log count) = codes "released" ∷ decimal log ∷ decimal count ∷ []
reply_words (Lost log count) = codes "lost" ∷ decimal log ∷ decimal count ∷ []
reply_words (Breach log broken) = codes "breach" ∷ decimal log ∷ flag_word broken ∷ []
reply_words (Log log said) = codes "log" ∷ decimal log ∷ record_words said
reply_words (Collected log) = codes "collected" ∷ decimal log ∷ []
reply_words (Board count frozen) = codes "board" ∷ decimal count ∷ flag_word frozen ∷ []
reply_words (Row out) = codes "row" ∷ out_words out
reply_words NoRow = codes "none" ∷ []

-- a reply's text, without its line feed: its words, with one space between two
abbrev pub reply_spelling : Reply → List ℕ
reply_spelling reply = join_with_byte 32 (reply_words reply)

-- a reply as it is written, with its line feed
abbrev pub reply_line : Reply → List ℕ
reply_line reply = reply_spelling reply ++ 10 ∷ []
