-- What the readers of replies need: which replies begin with a keyword, and which keywords begin replies.
use Rattle.std.proofs.Common.{◌≡◌, ℕ, ℤ, ◌<◌, ◌≤◌, Bool, true, false, not, ◌&&◌, eqb, if◌then◌else◌, List, [], ◌∷◌, length, get_or, drop, codes, decimal, FitsSigned, w64, subst, ap, ◌∙◌, sym, refl, arith}
use Rattle.std.specs.Fmt.{signed_decimal}
use Rattle.std.specs.Str.{bytes_eq}
use Rattle.std.proofs.lemmas.Bool.{true≢false, ne_eqb}
use Rattle.std.proofs.lemmas.Fmt.{decimal_injective}
use Rattle.warp_tag.specs.Limits.{widest, greatest_count, most_records, most_rows}
use Rattle.warp_tag.specs.Moment.{Moment, IsTagOf}
use Rattle.warp_tag.specs.declared.form.Form.{Form}
use Rattle.warp_tag.specs.declared.form.Form.TheVariants.{One, Two, Three, Four}
use Rattle.warp_tag.specs.declared.out.Out.{Out}
use Rattle.warp_tag.proofs.Forms.{records_widen}
use Rattle.warp_record.specs.declared.record.Record.{Record}
use Rattle.warp_record.specs.declared.record.Record.TheVariants.{Event, Withdraw, Announce, Joint}
use Rattle.warp_record.specs.declared.reply.Refusal.{Refusal}
use Rattle.warp_record.specs.declared.reply.Reply.{Reply}
use Rattle.warp_record.specs.declared.reply.Reply.TheVariants.{Taken, Known, Refused, Var, Outputs, Output, Nothing, Horizon, Released, Lost, Breach, Log, Collected, Board, Row, NoRow}
use Rattle.warp_record.specs.Record.{IsRecord, record_words, tag_words}
use Rattle.warp_record.specs.Reply.{IsOut, IsReply, IsPlace, flag_word, out_words, refusal_number, reply_words}
use Rattle.warp_record.proofs.PlainWords.{refusal_number-le}
use Rattle.warp_record.proofs.WordReadings.{number_at, tag_at, signed_value, refusal_of, flag_at, out_at, record_said, reply_said, reply_back}
use Rattle.warp_record.proofs.Wider.{reply_widens}
use Rattle.warp_record.proofs.WordTexts.{is_one}

-- the text of a number that a reply can name first is that of no other
pub same_number : (f : Form) (m n : ℕ) → m ≤ most_records f → n ≤ most_records f → decimal m ≡ decimal n → m ≡ n
same_number f m n m_fits n_fits same =
    let wide = records_widen f in
    decimal_injective m n (omega (arith, m_fits, wide)) (omega (arith, n_fits, wide)) same

-- the number of a refusal is one that a reply of any form can name first
refusal_fits : (f : Form) (refusal : Refusal) → refusal_number refusal ≤ most_records f
refusal_fits One refusal = omega (arith, refusal_number-le refusal)
refusal_fits Two refusal = omega (arith, refusal_number-le refusal)
refusal_fits Three refusal = omega (arith, refusal_number-le refusal)
refusal_fits Four refusal = omega (arith, refusal_number-le refusal)

-- the reply is the one that its words say
reply_is : (f : Form) (words : List (List ℕ)) (reply : Reply) → IsReply f reply → words ≡ reply_words reply → reply ≡ reply_said words
reply_is f words reply fits are = sym (reply_back reply (reply_widens f reply fits)) ∙ ap reply_said (sym are)

-- ---- replies that begin with a keyword

pub taken_words : (f : Form) (text : List ℕ) (reply : Reply) → IsReply f reply → codes "taken" ∷ text ∷ [] ≡ reply_words reply
    → (place : ℕ) × IsPlace f place × (text ≡ decimal place)
taken_words f text reply fits are =
    let is : reply ≡ Taken (number_at (codes "taken" ∷ text ∷ []) 1) = reply_is f _ reply fits are in
    (_, subst (IsReply f) is fits, ap (λ (ws : List (List ℕ)). get_or ws 1 []) (are ∙ ap reply_words is))

pub known_words : (f : Form) (text : List ℕ) (reply : Reply) → IsReply f reply → codes "known" ∷ text ∷ [] ≡ reply_words reply
    → (place : ℕ) × IsPlace f place × (text ≡ decimal place)
known_words f text reply fits are =
    let is : reply ≡ Known (number_at (codes "known" ∷ text ∷ []) 1) = reply_is f _ reply fits are in
    (_, subst (IsReply f) is fits, ap (λ (ws : List (List ℕ)). get_or ws 1 []) (are ∙ ap reply_words is))

pub refused_words : (f : Form) (text : List ℕ) (reply : Reply) → IsReply f reply → codes "refused" ∷ text ∷ [] ≡ reply_words reply
    → (refusal : Refusal) × (refusal_number refusal ≤ most_records widest) × (text ≡ decimal (refusal_number refusal))
refused_words f text reply fits are =
    let is : reply ≡ Refused (refusal_of (number_at (codes "refused" ∷ text ∷ []) 1)) = reply_is f _ reply fits are in (
      _,
      omega (arith, refusal_number-le (refusal_of (number_at (codes "refused" ∷ text ∷ []) 1))),
      ap (λ (ws : List (List ℕ)). get_or ws 1 []) (are ∙ ap reply_words is),
    )

pub var_words : (f : Form) (text value : List ℕ) (reply : Reply) → IsReply f reply → codes "var" ∷ text ∷ value ∷ [] ≡ reply_words reply
    → (log : ℕ) × (z : ℤ) × (log ≤ most_records f) × FitsSigned w64 z × (text ≡ decimal log) × (value ≡ signed_decimal z)
var_words f text value reply fits are =
    let is : reply ≡ Var (number_at (codes "var" ∷ text ∷ value ∷ []) 1) (signed_value value) = reply_is f _ reply fits are in
    let range = subst (IsReply f) is fits in
    let same = are ∙ ap reply_words is in
    (_, _, range.0, range.1, ap (λ (ws : List (List ℕ)). get_or ws 1 []) same, ap (λ (ws : List (List ℕ)). get_or ws 2 []) same)

pub breach_words : (f : Form) (text flag : List ℕ) (reply : Reply) → IsReply f reply → codes "breach" ∷ text ∷ flag ∷ [] ≡ reply_words reply
    → (log : ℕ) × (broken : Bool) × (log ≤ most_records f) × (text ≡ decimal log) × (flag ≡ flag_word broken)
breach_words f text flag reply fits are =
    let words = codes "breach" ∷ text ∷ flag ∷ [] in
    let is : reply ≡ Breach (number_at words 1) (flag_at words 2) = reply_is f words reply fits are in
    let same = are ∙ ap reply_words is in
    (_, _, subst (IsReply f) is fits, ap (λ (ws : List (List ℕ)). get_or ws 1 []) same, ap (λ (ws : List (List ℕ)). get_or ws 2 []) same)

pub board_words : (f : Form) (text flag : List ℕ) (reply : Reply) → IsReply f reply → codes "board" ∷ text ∷ flag ∷ [] ≡ reply_words reply
    → (count : ℕ) × (frozen : Bool) × (count ≤ most_rows f) × (text ≡ decimal count) × (flag ≡ flag_word frozen)
board_words f text flag reply fits are =
    let words = codes "board" ∷ text ∷ flag ∷ [] in
    let is : reply ≡ Board (number_at words 1) (flag_at words 2) = reply_is f words reply fits are in
    let same = are ∙ ap reply_words is in
    (_, _, subst (IsReply f) is fits, ap (λ (ws : List (List ℕ)). get_or ws 1 []) same, ap (λ (ws : List (List ℕ)). get_or ws 2 []) same)

pub horizon_words : (f : Form) (words : List (List ℕ)) (reply : Reply) → IsReply f reply → codes "horizon" ∷ words ≡ reply_words reply
    → (log : ℕ) × (tag : Moment) × (log ≤ most_records f) × IsTagOf f tag × (words ≡ decimal log ∷ tag_words tag)
horizon_words f words reply fits are =
    let is : reply ≡ Horizon (number_at (codes "horizon" ∷ words) 1) (tag_at (codes "horizon" ∷ words) 2) = reply_is f _ reply fits are in
    let range = subst (IsReply f) is fits in
    (_, _, range.0, range.1, ap (λ (ws : List (List ℕ)). drop 1 ws) (are ∙ ap reply_words is))

pub row_words : (f : Form) (words : List (List ℕ)) (reply : Reply) → IsReply f reply → codes "row" ∷ words ≡ reply_words reply
    → (out : Out) × IsOut f out × (words ≡ out_words out)
row_words f words reply fits are =
    let is : reply ≡ Row (out_at (codes "row" ∷ words) 1) = reply_is f _ reply fits are in
    (_, subst (IsReply f) is fits, ap (λ (ws : List (List ℕ)). drop 1 ws) (are ∙ ap reply_words is))

pub output_words : (f : Form) (words : List (List ℕ)) (reply : Reply) → IsReply f reply → codes "output" ∷ words ≡ reply_words reply
    → (log : ℕ) × (out : Out) × (log ≤ most_records f) × IsOut f out × (words ≡ decimal log ∷ out_words out)
output_words f words reply fits are =
    let is : reply ≡ Output (number_at (codes "output" ∷ words) 1) (out_at (codes "output" ∷ words) 2) = reply_is f _ reply fits are in
    let range = subst (IsReply f) is fits in
    (_, _, range.0, range.1, ap (λ (ws : List (List ℕ)). drop 1 ws) (are ∙ ap reply_words is))

pub log_words : (f : Form) (words : List (List ℕ)) (reply : Reply) → IsReply f reply → codes "log" ∷ words ≡ reply_words reply
    → (log : ℕ) × (said : Record) × (log ≤ most_records f) × IsRecord f said × (words ≡ decimal log ∷ record_words said)
log_words f words reply fits are =
    let is : reply ≡ Log (number_at (codes "log" ∷ words) 1) (record_said (drop 2 (codes "log" ∷ words))) = reply_is f _ reply fits are in
    let range = subst (IsReply f) is fits in
    (_, _, range.0, range.1, ap (λ (ws : List (List ℕ)). drop 1 ws) (are ∙ ap reply_words is))

-- ---- keywords that begin replies

-- the keywords of replies of so many words
abbrev pub keywords_of : ℕ → List (List ℕ)
keywords_of count =
    if eqb count 1 then codes "none" ∷ []
    else (if eqb count 2 then codes "refused" ∷ codes "none" ∷ codes "collected" ∷ codes "taken" ∷ codes "known" ∷ []
    else (if eqb count 3 then codes "var" ∷ codes "breach" ∷ codes "board" ∷ codes "outputs" ∷ codes "released" ∷ codes "lost" ∷ []
    else codes "row" ∷ codes "horizon" ∷ codes "output" ∷ codes "log" ∷ []))

-- the first word of a reply is such a keyword
keyword_first : (reply : Reply) → is_one (get_or (reply_words reply) 0 []) (keywords_of (length (reply_words reply))) ≡ true
keyword_first (Taken place) = refl
keyword_first (Known place) = refl
keyword_first (Refused refusal) = refl
keyword_first (Var log value) = refl
keyword_first (Outputs log count) = refl
keyword_first (Output log out) = refl
keyword_first (Nothing log) = refl
keyword_first (Horizon log tag) = refl
keyword_first (Released log count) = refl
keyword_first (Lost log count) = refl
keyword_first (Breach log broken) = refl
keyword_first (Log log (Event origin tag input value)) = refl
keyword_first (Log log (Withdraw origin tag)) = refl
keyword_first (Log log (Announce origin tag events withdrawn)) = refl
keyword_first (Log log (Joint tag events withdrawn)) = refl
keyword_first (Collected log) = refl
keyword_first (Board count frozen) = refl
keyword_first (Row out) = refl
keyword_first NoRow = refl

-- so words that begin with none of them are no reply's
pub no_keyword : (word : List ℕ) (words : List (List ℕ)) (reply : Reply) → is_one word (keywords_of (length (word ∷ words))) ≡ false
    → word ∷ words ≡ reply_words reply → ⊥
no_keyword word words reply isnt are =
    true≢false (sym (keyword_first reply)
    ∙ sym (ap (λ (ws : List (List ℕ)). is_one (get_or ws 0 []) (keywords_of (length ws))) are) ∙ isnt)

pub no_long_keyword : (word : List ℕ) (words : List (List ℕ)) (reply : Reply) → 2 < length words
    → is_one word (codes "row" ∷ codes "horizon" ∷ codes "output" ∷ codes "log" ∷ []) ≡ false → word ∷ words ≡ reply_words reply → ⊥
no_long_keyword word words reply more isnt are =
    let one = ne_eqb (length (word ∷ words)) 1 (λ is. omega (arith, is, more)) in
    let two = ne_eqb (length (word ∷ words)) 2 (λ is. omega (arith, is, more)) in
    let three = ne_eqb (length (word ∷ words)) 3 (λ is. omega (arith, is, more)) in
    no_keyword word words reply (rw (one, two, three) isnt) are

-- ---- the words behind the first

-- the second of two or three words is a number
second_word : (f : Form) (reply : Reply) → IsReply f reply → (eqb (length (reply_words reply)) 2 ≡ true)
    → (n : ℕ) × (n ≤ most_records f) × (get_or (reply_words reply) 1 [] ≡ decimal n)
second_word f (Taken place) fits two = (place, fits.1, refl)
second_word f (Known place) fits two = (place, fits.1, refl)
second_word f (Refused refusal) fits two = (refusal_number refusal, refusal_fits f refusal, refl)
second_word f (Nothing log) fits two = (log, fits, refl)
second_word f (Collected log) fits two = (log, fits, refl)
second_word f (Var log value) fits two = absurd (true≢false (sym two))
second_word f (Outputs log count) fits two = absurd (true≢false (sym two))
second_word f (Output log out) fits two = absurd (true≢false (sym two))
second_word f (Horizon log tag) fits two = absurd (true≢false (sym two))
second_word f (Released log count) fits two = absurd (true≢false (sym two))
second_word f (Lost log count) fits two = absurd (true≢false (sym two))
second_word f (Breach log broken) fits two = absurd (true≢false (sym two))
second_word f (Log log (Event origin tag input value)) fits two = absurd (true≢false (sym two))
second_word f (Log log (Withdraw origin tag)) fits two = absurd (true≢false (sym two))
second_word f (Log log (Announce origin tag events withdrawn)) fits two = absurd (true≢false (sym two))
second_word f (Log log (Joint tag events withdrawn)) fits two = absurd (true≢false (sym two))
second_word f (Board count frozen) fits two = absurd (true≢false (sym two))
second_word f (Row out) fits two = absurd (true≢false (sym two))
second_word f NoRow fits two = absurd (true≢false (sym two))

pub short_number : (f : Form) (word text : List ℕ) (reply : Reply) → IsReply f reply → word ∷ text ∷ [] ≡ reply_words reply
    → (n : ℕ) × (n ≤ most_records f) × (text ≡ decimal n)
short_number f word text reply fits are =
    let told = second_word f reply fits (sym (ap (λ (ws : List (List ℕ)). eqb (length ws) 2) are)) in
    (told.0, told.1, ap (λ (ws : List (List ℕ)). get_or ws 1 []) are ∙ told.2)

-- three words whose first is none of three keywords
abbrev is_counted : List (List ℕ) → Bool
is_counted words =
    eqb (length words) 3 && not (is_one (get_or words 0 []) (codes "var" ∷ codes "breach" ∷ codes "board" ∷ []))

-- the others of them are the length of a log and a count
counted_words : (f : Form) (reply : Reply) → IsReply f reply → is_counted (reply_words reply) ≡ true
    → (log : ℕ) × (count : ℕ) × (log ≤ most_records f) × (count ≤ greatest_count)
    × (get_or (reply_words reply) 1 [] ≡ decimal log) × (get_or (reply_words reply) 2 [] ≡ decimal count)
counted_words f (Outputs log count) fits is = (log, count, fits.0, fits.1, refl, refl)
counted_words f (Released log count) fits is = (log, count, fits.0, fits.1, refl, refl)
counted_words f (Lost log count) fits is = (log, count, fits.0, fits.1, refl, refl)
counted_words f (Taken place) fits is = absurd (true≢false (sym is))
counted_words f (Known place) fits is = absurd (true≢false (sym is))
counted_words f (Refused refusal) fits is = absurd (true≢false (sym is))
counted_words f (Nothing log) fits is = absurd (true≢false (sym is))
counted_words f (Collected log) fits is = absurd (true≢false (sym is))
counted_words f (Var log value) fits is = absurd (true≢false (sym is))
counted_words f (Output log out) fits is = absurd (true≢false (sym is))
counted_words f (Horizon log tag) fits is = absurd (true≢false (sym is))
counted_words f (Breach log broken) fits is = absurd (true≢false (sym is))
counted_words f (Log log (Event origin tag input value)) fits is = absurd (true≢false (sym is))
counted_words f (Log log (Withdraw origin tag)) fits is = absurd (true≢false (sym is))
counted_words f (Log log (Announce origin tag events withdrawn)) fits is = absurd (true≢false (sym is))
counted_words f (Log log (Joint tag events withdrawn)) fits is = absurd (true≢false (sym is))
counted_words f (Board count frozen) fits is = absurd (true≢false (sym is))
counted_words f (Row out) fits is = absurd (true≢false (sym is))
counted_words f NoRow fits is = absurd (true≢false (sym is))

pub middle_count : (f : Form) (word text more : List ℕ) (reply : Reply) → IsReply f reply → bytes_eq word (codes "var") ≡ false
    → bytes_eq word (codes "breach") ≡ false → bytes_eq word (codes "board") ≡ false → word ∷ text ∷ more ∷ [] ≡ reply_words reply
    → (log : ℕ) × (count : ℕ) × (log ≤ most_records f) × (count ≤ greatest_count) × (text ≡ decimal log) × (more ≡ decimal count)
middle_count f word text more reply fits var breach board are =
    let counted : is_counted (word ∷ text ∷ more ∷ []) ≡ true = rw (var, breach, board) refl in
    let told = counted_words f reply fits (sym (ap is_counted are) ∙ counted) in (
      told.0,
      told.1,
      told.2,
      told.3,
      ap (λ (ws : List (List ℕ)). get_or ws 1 []) are ∙ told.4,
      ap (λ (ws : List (List ℕ)). get_or ws 2 []) are ∙ told.5,
    )
