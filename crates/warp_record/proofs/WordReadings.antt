-- What words say: functions that give back the line or the reply whose words they get, so no two have the same words.
use Rattle.std.proofs.Common.{◌≡◌, ℕ, ◌+◌, ◌-◌, ◌<◌, ◌^◌, suc, ℤ, pos, negsuc, Bool, true, false, eqb, if◌then◌else◌, List, [], length, get_or, drop, codes, decimal, FitsSigned, w64, sym, ap, ◌∙◌, refl, arith}
use Rattle.std.specs.Fmt.{signed_decimal}
use Rattle.std.specs.Str.{bytes_eq}
use Rattle.std.specs.Str.Parse.{digits_value}
use Rattle.std.proofs.lemmas.Bool.{false_from_ne_true, ne_eqb}
use Rattle.std.proofs.lemmas.Fmt.{decimal_is_IsNumeral}
use Rattle.std.proofs.lemmas.Slice.Eq.{bytes_eq-Decides}
use Rattle.std.proofs.lemmas.Str.Parse.{digit_at}
use Rattle.warp_tag.specs.Limits.{widest}
use Rattle.warp_tag.specs.Moment.{Moment, IsInRange}
use Rattle.warp_tag.specs.declared.out.Out.{Out}
use Rattle.warp_record.specs.declared.line.Line.{Line}
use Rattle.warp_record.specs.declared.line.Line.TheVariants as line
use Rattle.warp_record.specs.declared.line.Look.TheVariants as look
use Rattle.warp_record.specs.declared.line.Query.TheVariants as query
use Rattle.warp_record.specs.declared.record.Record.{Record}
use Rattle.warp_record.specs.declared.record.Record.TheVariants.{Event, Withdraw, Announce, Joint}
use Rattle.warp_record.specs.declared.reply.Refusal.{Refusal}
use Rattle.warp_record.specs.declared.reply.Refusal.TheVariants.{Syntax, NoOrigin, PastStop, NoInput, NotYours, NoVar, LogFull, NoMemory, TooLong, Busy, NoBoard}
use Rattle.warp_record.specs.declared.reply.Reply.{Reply}
use Rattle.warp_record.specs.declared.reply.Reply.TheVariants.{Taken, Known, Refused, Var, Outputs, Output, Nothing, Horizon, Released, Lost, Breach, Log, Collected, Board, Row, NoRow}
use Rattle.warp_record.specs.Line.{IsLine, line_words, spelling}
use Rattle.warp_record.specs.Record.{IsRecord, record_words}
use Rattle.warp_record.specs.Reply.{IsReply, refusal_number, reply_words, reply_spelling}
use Rattle.warp_record.proofs.LineWords.{words_of_line, words_of_reply}
use Rattle.warp_record.proofs.PlainWords.{refusal_number-le}

-- ---- one word

-- the first word is this one
abbrev pub is_first : List (List ℕ) → List ℕ → Bool
is_first words key = bytes_eq (get_or words 0 []) key

-- the number at a place
abbrev pub number_at : List (List ℕ) → ℕ → ℕ
number_at words place = digits_value 10 (get_or words place [])

-- the signed number of a word
abbrev pub signed_value : List ℕ → ℤ
signed_value word =
    if eqb (get_or word 0 0) 45 then negsuc (digits_value 10 (drop 1 word) - 1) else pos (digits_value 10 word)

-- the tag at a place
abbrev pub tag_at : List (List ℕ) → ℕ → Moment
tag_at words place = record { time = number_at words place; microstep = number_at words (place + 1) }

-- a number is read from its text
pub value : (n : ℕ) → n < 2 ^ 64 → digits_value 10 (decimal n) ≡ n
value n fits = (decimal_is_IsNumeral n fits).1

-- a signed number is read from its text
pub signed : (z : ℤ) → FitsSigned w64 z → signed_value (signed_decimal z) ≡ z
signed (pos n) fits =
    let small : n < 2 ^ 64 = omega (arith, fits.sfits) in
    let numeral = decimal_is_IsNumeral n small in
    let range = digit_at (decimal n) 0 numeral.0.1 numeral.0.0 in
    let other : eqb (get_or (decimal n) 0 0) 45 ≡ false = ne_eqb (get_or (decimal n) 0 0) 45 (λ is. omega (arith, range.0, is)) in
    rw (other, value n small) refl
signed (negsuc n) fits =
    let less : suc n - 1 ≡ n = omega arith in
    rw (value (suc n) (omega (arith, fits.sfits))) (ap (λ (m : ℕ). negsuc m) less)

-- a tag is read from its words
tag_said : (tag : Moment) (a b : ℕ) → IsInRange tag → a ≡ digits_value 10 (decimal tag.time) → b ≡ digits_value 10 (decimal tag.microstep)
    → ◌≡◌ {A = Moment} (record { time = a; microstep = b }) tag
tag_said tag a b fits is_a is_b =
    let time = is_a ∙ value tag.time (omega (arith, fits.time)) in
    let microstep = is_b ∙ value tag.microstep (omega (arith, fits.microstep)) in
    λ i. record { time = time i; microstep = microstep i }

-- ---- records and lines

-- the record that the words say
abbrev pub record_said : List (List ℕ) → Record
record_said words =
    if is_first words (codes "event") then Event (number_at words 1) (tag_at words 2) (number_at words 4) (signed_value (get_or words 5 []))
    else (if is_first words (codes "withdraw") then Withdraw (number_at words 1) (tag_at words 2)
    else (if bytes_eq (get_or words 1 []) (codes "*") then Joint (tag_at words 2) (number_at words 4) (number_at words 5)
    else Announce (number_at words 1) (tag_at words 2) (number_at words 4) (number_at words 5)))

-- no number is written so
pub no_star : (n : ℕ) → n < 2 ^ 64 → decimal n ≡ codes "*" → ⊥
no_star n fits is =
    let numeral = decimal_is_IsNumeral n fits in
    let range = digit_at (decimal n) 0 numeral.0.1 numeral.0.0 in
    omega (arith, range.0, ap (λ (word : List ℕ). get_or word 0 0) is)

pub not_star : (n : ℕ) → n < 2 ^ 64 → bytes_eq (decimal n) (codes "*") ≡ false
not_star n fits = false_from_ne_true (bytes_eq (decimal n) (codes "*")) (λ h. no_star n fits ((bytes_eq-Decides (decimal n) (codes "*")).0 h))

-- a record is what its words say
pub record_back : («record» : Record) → IsRecord widest «record» → record_said (record_words «record») ≡ «record»
record_back (Event origin tag input z) fits =
    rw (
      value origin (omega (arith, fits.origin_fits)),
      tag_said tag _ _ fits.tag_fits refl refl,
      value input (omega (arith, fits.input_fits)),
      signed z fits.value_fits,
    ) refl
record_back (Withdraw origin tag) fits =
    rw (value origin (omega (arith, fits.origin_fits)), tag_said tag _ _ fits.tag_fits refl refl) refl
record_back (Announce origin tag events withdrawn) fits =
    rw (
      not_star origin (omega (arith, fits.origin_fits)),
      value origin (omega (arith, fits.origin_fits)),
      tag_said tag _ _ fits.tag_fits refl refl,
      value events (omega (arith, fits.events_fit)),
      value withdrawn (omega (arith, fits.withdrawn_fit)),
    ) refl
record_back (Joint tag events withdrawn) fits =
    rw (
      tag_said tag _ _ fits.tag_fits refl refl,
      value events (omega (arith, fits.events_fit)),
      value withdrawn (omega (arith, fits.withdrawn_fit)),
    ) refl

-- the line that the words say
abbrev pub line_said : List (List ℕ) → Line
line_said words =
    if is_first words (codes "var") then line.Ask (query.Var (number_at words 1))
    else (if is_first words (codes "outputs") then line.Ask query.Outputs
    else (if is_first words (codes "output") then line.Ask (query.Output (number_at words 1))
    else (if is_first words (codes "horizon") then line.Ask query.Horizon
    else (if is_first words (codes "released") then line.Ask query.Released
    else (if is_first words (codes "lost") then line.Ask query.Lost
    else (if is_first words (codes "breach")
    then (if bytes_eq (get_or words 1 []) (codes "*") then line.Ask query.JointBreach else line.Ask (query.Breach (number_at words 1)))
    else (if is_first words (codes "log") then line.Ask (query.Log (number_at words 1))
    else (if is_first words (codes "collect") then line.Collect
    else (if is_first words (codes "board") then line.Look look.Board
    else (if is_first words (codes "row") then line.Look (look.Row (number_at words 1))
    else line.Put (record_said words)))))))))))

pub line_back : (said : Line) → IsLine widest said → line_said (line_words said) ≡ said
line_back (line.Put (Event origin tag input z)) fits = ap (λ (r : Record). line.Put r) (record_back (Event origin tag input z) fits)
line_back (line.Put (Withdraw origin tag)) fits = ap (λ (r : Record). line.Put r) (record_back (Withdraw origin tag) fits)
line_back (line.Put (Announce origin tag events withdrawn)) fits =
    ap (λ (r : Record). line.Put r) (record_back (Announce origin tag events withdrawn) fits)
line_back (line.Put (Joint tag events withdrawn)) fits =
    ap (λ (r : Record). line.Put r) (record_back (Joint tag events withdrawn) fits)
line_back (line.Ask (query.Var n)) fits = rw (value n (omega (arith, fits))) refl
line_back (line.Ask query.Outputs) fits = refl
line_back (line.Ask (query.Output n)) fits = rw (value n (omega (arith, fits))) refl
line_back (line.Ask query.Horizon) fits = refl
line_back (line.Ask query.Released) fits = refl
line_back (line.Ask query.Lost) fits = refl
line_back (line.Ask (query.Breach n)) fits = rw (not_star n (omega (arith, fits)), value n (omega (arith, fits))) refl
line_back (line.Ask query.JointBreach) fits = refl
line_back (line.Ask (query.Log n)) fits = rw (value n (omega (arith, fits))) refl
line_back line.Collect fits = refl
line_back (line.Look look.Board) fits = refl
line_back (line.Look (look.Row n)) fits = rw (value n (omega (arith, fits))) refl

-- two lines in range with one spelling are one line
pub same_line : (a b : Line) → IsLine widest a → IsLine widest b → spelling a ≡ spelling b → a ≡ b
same_line a b fits_a fits_b same =
    let words_a = (words_of_line widest (spelling a) a fits_a refl).0 in
    let words_b = (words_of_line widest (spelling a) b fits_b same).0 in
    sym (line_back a fits_a) ∙ ap line_said (sym words_a ∙ words_b) ∙ line_back b fits_b

-- ---- replies

-- the refusal with a number
abbrev pub refusal_of : ℕ → Refusal
refusal_of n =
    if eqb n 1 then Syntax else (if eqb n 2 then NoOrigin else (if eqb n 3 then PastStop else (if eqb n 4 then NoInput
    else (if eqb n 5 then NotYours else (if eqb n 6 then NoVar else (if eqb n 7 then LogFull else (if eqb n 8 then NoMemory
    else (if eqb n 9 then TooLong else (if eqb n 10 then Busy else NoBoard)))))))))

refusal_back : (refusal : Refusal) → refusal_of (refusal_number refusal) ≡ refusal
refusal_back Syntax = refl
refusal_back NoOrigin = refl
refusal_back PastStop = refl
refusal_back NoInput = refl
refusal_back NotYours = refl
refusal_back NoVar = refl
refusal_back LogFull = refl
refusal_back NoMemory = refl
refusal_back TooLong = refl
refusal_back Busy = refl
refusal_back NoBoard = refl

-- the flag at a place
abbrev pub flag_at : List (List ℕ) → ℕ → Bool
flag_at words place = bytes_eq (get_or words place []) (codes "1")

-- the output at a place
abbrev pub out_at : List (List ℕ) → ℕ → Out
out_at words place =
    record { tag = tag_at words place; port = number_at words (place + 2); value = signed_value (get_or words (place + 3) []) }

-- the reply that the words say
abbrev pub reply_said : List (List ℕ) → Reply
reply_said words =
    if is_first words (codes "taken") then Taken (number_at words 1)
    else (if is_first words (codes "known") then Known (number_at words 1)
    else (if is_first words (codes "refused") then Refused (refusal_of (number_at words 1))
    else (if is_first words (codes "var") then Var (number_at words 1) (signed_value (get_or words 2 []))
    else (if is_first words (codes "outputs") then Outputs (number_at words 1) (number_at words 2)
    else (if is_first words (codes "output") then Output (number_at words 1) (out_at words 2)
    else (if is_first words (codes "none") then (if eqb (length words) 1 then NoRow else Nothing (number_at words 1))
    else (if is_first words (codes "horizon") then Horizon (number_at words 1) (tag_at words 2)
    else (if is_first words (codes "released") then Released (number_at words 1) (number_at words 2)
    else (if is_first words (codes "lost") then Lost (number_at words 1) (number_at words 2)
    else (if is_first words (codes "breach") then Breach (number_at words 1) (flag_at words 2)
    else (if is_first words (codes "log") then Log (number_at words 1) (record_said (drop 2 words))
    else (if is_first words (codes "collected") then Collected (number_at words 1)
    else (if is_first words (codes "board") then Board (number_at words 1) (flag_at words 2)
    else Row (out_at words 1))))))))))))))

pub reply_back : (reply : Reply) → IsReply widest reply → reply_said (reply_words reply) ≡ reply
reply_back (Taken place) fits = rw (value place (omega (arith, fits.1))) refl
reply_back (Known place) fits = rw (value place (omega (arith, fits.1))) refl
reply_back (Refused refusal) fits =
    rw (value (refusal_number refusal) (omega (arith, refusal_number-le refusal)), refusal_back refusal) refl
reply_back (Var log z) fits = rw (value log (omega (arith, fits.0)), signed z fits.1) refl
reply_back (Outputs log count) fits = rw (value log (omega (arith, fits.0)), value count (omega (arith, fits.1))) refl
reply_back (Output log out) fits =
    rw (
      value log (omega (arith, fits.0)),
      tag_said out.tag _ _ fits.1.tag_fits refl refl,
      value out.port (omega (arith, fits.1.port_fits)),
      signed out.value fits.1.value_fits,
    ) refl
reply_back (Nothing log) fits = rw (value log (omega (arith, fits))) refl
reply_back (Horizon log tag) fits = rw (value log (omega (arith, fits.0)), tag_said tag _ _ fits.1 refl refl) refl
reply_back (Released log count) fits = rw (value log (omega (arith, fits.0)), value count (omega (arith, fits.1))) refl
reply_back (Lost log count) fits = rw (value log (omega (arith, fits.0)), value count (omega (arith, fits.1))) refl
reply_back (Breach log true) fits = rw (value log (omega (arith, fits))) refl
reply_back (Breach log false) fits = rw (value log (omega (arith, fits))) refl
reply_back (Log log said) fits = rw (value log (omega (arith, fits.0)), record_back said fits.1) refl
reply_back (Collected log) fits = rw (value log (omega (arith, fits))) refl
reply_back (Board count true) fits = rw (value count (omega (arith, fits))) refl
reply_back (Board count false) fits = rw (value count (omega (arith, fits))) refl
reply_back (Row out) fits =
    rw (
      tag_said out.tag _ _ fits.tag_fits refl refl,
      value out.port (omega (arith, fits.port_fits)),
      signed out.value fits.value_fits,
    ) refl
reply_back NoRow fits = refl

-- two replies in range with one spelling are one reply
pub same_reply : (a b : Reply) → IsReply widest a → IsReply widest b → reply_spelling a ≡ reply_spelling b → a ≡ b
same_reply a b fits_a fits_b same =
    let words_a = (words_of_reply widest (reply_spelling a) a fits_a refl).0 in
    let words_b = (words_of_reply widest (reply_spelling a) b fits_b same).0 in
    sym (reply_back a fits_a) ∙ ap reply_said (sym words_a ∙ words_b) ∙ reply_back b fits_b
