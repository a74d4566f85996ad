-- What the readers of lines and records by their words need: which lines and records begin with a keyword, and which keywords begin them.
use Rattle.std.proofs.Common.{◌≡◌, ℕ, ◌<◌, ◌≤◌, true, false, eqb, if◌then◌else◌, List, [], ◌∷◌, length, get_or, drop, codes, decimal, FitsSigned, w64, ℤ, subst, sym, ap, ◌∙◌, refl, arith}
use Rattle.std.specs.Fmt.{signed_decimal}
use Rattle.std.proofs.lemmas.Bool.{true≢false}
use Rattle.std.proofs.lemmas.Fmt.{decimal_injective}
use Rattle.warp_tag.specs.Limits.{has_joint, widest, last_number, most_inputs, most_origins, most_records}
use Rattle.warp_tag.specs.Moment.{Moment, IsTagOf}
use Rattle.warp_tag.specs.declared.form.Form.{Form}
use Rattle.warp_tag.proofs.Forms.{origins_widen}
use Rattle.warp_record.specs.declared.line.Line.{Line}
use Rattle.warp_record.specs.declared.line.Line.TheVariants as line
use Rattle.warp_record.specs.declared.line.Look.TheVariants as look
use Rattle.warp_record.specs.declared.line.Query.TheVariants as query
use Rattle.warp_record.specs.declared.record.Record.{Record}
use Rattle.warp_record.specs.declared.record.Record.TheVariants.{Event, Withdraw, Announce, Joint}
use Rattle.warp_record.specs.Line.{IsLine, line_words}
use Rattle.warp_record.specs.Record.{IsRecord, record_words}
use Rattle.warp_record.proofs.RecordTexts.{event_words, announcement_words}
use Rattle.warp_record.proofs.Wider.{line_widens}
use Rattle.warp_record.proofs.WordReadings.{number_at, line_said, line_back, no_star, not_star}
use Rattle.warp_record.proofs.WordTexts.{is_one}

-- ---- lines

-- the keywords of lines of so many words
abbrev pub line_keywords : ℕ → List (List ℕ)
line_keywords count =
    if eqb count 1 then codes "outputs" ∷ codes "horizon" ∷ codes "released" ∷ codes "lost" ∷ codes "collect" ∷ codes "board" ∷ []
    else (if eqb count 2 then codes "breach" ∷ codes "log" ∷ codes "row" ∷ codes "var" ∷ codes "output" ∷ []
    else codes "event" ∷ codes "announce" ∷ codes "withdraw" ∷ [])

-- the first word of a line is such a keyword
line_keyword : (said : Line) → is_one (get_or (line_words said) 0 []) (line_keywords (length (line_words said))) ≡ true
line_keyword (line.Put (Event origin tag input value)) = refl
line_keyword (line.Put (Withdraw origin tag)) = refl
line_keyword (line.Put (Announce origin tag events withdrawn)) = refl
line_keyword (line.Put (Joint tag events withdrawn)) = refl
line_keyword (line.Ask (query.Var n)) = refl
line_keyword (line.Ask query.Outputs) = refl
line_keyword (line.Ask (query.Output n)) = refl
line_keyword (line.Ask query.Horizon) = refl
line_keyword (line.Ask query.Released) = refl
line_keyword (line.Ask query.Lost) = refl
line_keyword (line.Ask (query.Breach n)) = refl
line_keyword (line.Ask query.JointBreach) = refl
line_keyword (line.Ask (query.Log n)) = refl
line_keyword line.Collect = refl
line_keyword (line.Look look.Board) = refl
line_keyword (line.Look (look.Row n)) = refl

-- so words that begin with none of them are no line's
pub no_line_keyword : (word : List ℕ) (words : List (List ℕ)) (said : Line)
    → is_one word (line_keywords (length (word ∷ words))) ≡ false → word ∷ words ≡ line_words said → ⊥
no_line_keyword word words said isnt are =
    true≢false (sym (line_keyword said)
    ∙ sym (ap (λ (ws : List (List ℕ)). is_one (get_or ws 0 []) (line_keywords (length ws))) are) ∙ isnt)

-- the second of two words is a number, or stands for all origins
second_word : (said : Line) → IsLine widest said → eqb (length (line_words said)) 2 ≡ true → (get_or (line_words said) 1 [] ≡ codes "*" → ⊥)
    → (n : ℕ) × (n ≤ last_number) × (get_or (line_words said) 1 [] ≡ decimal n)
second_word (line.Ask (query.Var n)) fits two other = (n, fits, refl)
second_word (line.Ask (query.Output n)) fits two other = (n, fits, refl)
second_word (line.Ask (query.Breach n)) fits two other = (n, omega (arith, fits), refl)
second_word (line.Ask query.JointBreach) fits two other = absurd (other refl)
second_word (line.Ask (query.Log n)) fits two other = (n, fits, refl)
second_word (line.Look (look.Row n)) fits two other = (n, fits, refl)
second_word (line.Put (Event origin tag input value)) fits two other = absurd (true≢false (sym two))
second_word (line.Put (Withdraw origin tag)) fits two other = absurd (true≢false (sym two))
second_word (line.Put (Announce origin tag events withdrawn)) fits two other = absurd (true≢false (sym two))
second_word (line.Put (Joint tag events withdrawn)) fits two other = absurd (true≢false (sym two))
second_word (line.Ask query.Outputs) fits two other = absurd (true≢false (sym two))
second_word (line.Ask query.Horizon) fits two other = absurd (true≢false (sym two))
second_word (line.Ask query.Released) fits two other = absurd (true≢false (sym two))
second_word (line.Ask query.Lost) fits two other = absurd (true≢false (sym two))
second_word line.Collect fits two other = absurd (true≢false (sym two))
second_word (line.Look look.Board) fits two other = absurd (true≢false (sym two))

pub line_number : (f : Form) (word text : List ℕ) (said : Line) → IsLine f said → word ∷ text ∷ [] ≡ line_words said
    → (text ≡ codes "*" → ⊥) → (n : ℕ) × (n ≤ last_number) × (text ≡ decimal n)
line_number f word text said fits are other =
    let told = second_word said (line_widens f said fits) (sym (ap (λ (ws : List (List ℕ)). eqb (length ws) 2) are))
    (λ star. other (ap (λ (ws : List (List ℕ)). get_or ws 1 []) are ∙ star)) in
    (told.0, told.1, ap (λ (ws : List (List ℕ)). get_or ws 1 []) are ∙ told.2)

-- a line of more words, or none, is a record's
pub record_if_many : (words : List (List ℕ)) (said : Line) → (length words ≡ 1 → ⊥) → (length words ≡ 2 → ⊥) → words ≡ line_words said
    → (r : Record) × (words ≡ record_words r)
record_if_many words (line.Put r) one two are = (r, are)
record_if_many words (line.Ask (query.Var n)) one two are = absurd (two (ap length are))
record_if_many words (line.Ask (query.Output n)) one two are = absurd (two (ap length are))
record_if_many words (line.Ask (query.Breach n)) one two are = absurd (two (ap length are))
record_if_many words (line.Ask query.JointBreach) one two are = absurd (two (ap length are))
record_if_many words (line.Ask (query.Log n)) one two are = absurd (two (ap length are))
record_if_many words (line.Look (look.Row n)) one two are = absurd (two (ap length are))
record_if_many words (line.Ask query.Outputs) one two are = absurd (one (ap length are))
record_if_many words (line.Ask query.Horizon) one two are = absurd (one (ap length are))
record_if_many words (line.Ask query.Released) one two are = absurd (one (ap length are))
record_if_many words (line.Ask query.Lost) one two are = absurd (one (ap length are))
record_if_many words line.Collect one two are = absurd (one (ap length are))
record_if_many words (line.Look look.Board) one two are = absurd (one (ap length are))

-- a line of two words, the second of which stands for all origins, asks whether a joint announcement is broken
pub all_asked : (f : Form) (word : List ℕ) (said : Line) → IsLine f said → word ∷ codes "*" ∷ [] ≡ line_words said
    → (word ≡ codes "breach") × (has_joint f ≡ true)
all_asked f word (line.Ask query.JointBreach) fits are = (ap (λ (ws : List (List ℕ)). get_or ws 0 []) are, fits)
all_asked f word (line.Ask (query.Var n)) fits are = absurd (no_star n (omega (arith, fits)) (sym (ap (λ (ws : List (List ℕ)). get_or ws 1 []) are)))
all_asked f word (line.Ask (query.Output n)) fits are = absurd (no_star n (omega (arith, fits)) (sym (ap (λ (ws : List (List ℕ)). get_or ws 1 []) are)))
all_asked f word (line.Ask (query.Breach n)) fits are = absurd (no_star n (omega (arith, fits, origins_widen f)) (sym (ap (λ (ws : List (List ℕ)). get_or ws 1 []) are)))
all_asked f word (line.Ask (query.Log n)) fits are = absurd (no_star n (omega (arith, fits)) (sym (ap (λ (ws : List (List ℕ)). get_or ws 1 []) are)))
all_asked f word (line.Look (look.Row n)) fits are = absurd (no_star n (omega (arith, fits)) (sym (ap (λ (ws : List (List ℕ)). get_or ws 1 []) are)))
all_asked f word (line.Put (Event origin tag input value)) fits are = absurd (omega (arith, ap length are))
all_asked f word (line.Put (Withdraw origin tag)) fits are = absurd (omega (arith, ap length are))
all_asked f word (line.Put (Announce origin tag events withdrawn)) fits are = absurd (omega (arith, ap length are))
all_asked f word (line.Put (Joint tag events withdrawn)) fits are = absurd (omega (arith, ap length are))
all_asked f word (line.Ask query.Outputs) fits are = absurd (omega (arith, ap length are))
all_asked f word (line.Ask query.Horizon) fits are = absurd (omega (arith, ap length are))
all_asked f word (line.Ask query.Released) fits are = absurd (omega (arith, ap length are))
all_asked f word (line.Ask query.Lost) fits are = absurd (omega (arith, ap length are))
all_asked f word line.Collect fits are = absurd (omega (arith, ap length are))
all_asked f word (line.Look look.Board) fits are = absurd (omega (arith, ap length are))

-- a line that begins with `breach` names an origin
pub no_breach : (f : Form) (number : ℕ) (said : Line) → number ≤ last_number → most_origins f ≤ number → IsLine f said
    → codes "breach" ∷ decimal number ∷ [] ≡ line_words said → ⊥
no_breach f number said small large fits are =
    let words = codes "breach" ∷ decimal number ∷ [] in
    let back = line_back said (line_widens f said fits) in
    let is : said ≡ line.Ask (query.Breach (number_at words 1)) = sym back ∙ ap line_said (sym are) ∙ rw (not_star number (omega (arith, small))) refl in
    let range : number_at words 1 < most_origins f = subst (IsLine f) is fits in
    let origins = origins_widen f in
    let same = ap (λ (ws : List (List ℕ)). get_or ws 1 []) (are ∙ ap line_words is) in
    let one = decimal_injective number (number_at words 1) (omega (arith, small)) (omega (arith, range, origins)) same in
    omega (arith, large, range, one)

-- ---- records

-- a record has four words or more, and its first word is one of three
pub four_words : (r : Record) → 4 ≤ length (record_words r)
four_words (Event origin tag input value) = omega arith
four_words (Withdraw origin tag) = omega arith
four_words (Announce origin tag events withdrawn) = omega arith
four_words (Joint tag events withdrawn) = omega arith

record_keyword : (r : Record) → is_one (get_or (record_words r) 0 []) (codes "event" ∷ codes "announce" ∷ codes "withdraw" ∷ []) ≡ true
record_keyword (Event origin tag input value) = refl
record_keyword (Withdraw origin tag) = refl
record_keyword (Announce origin tag events withdrawn) = refl
record_keyword (Joint tag events withdrawn) = refl

pub no_record_keyword : (word : List ℕ) (words : List (List ℕ)) (r : Record)
    → is_one word (codes "event" ∷ codes "announce" ∷ codes "withdraw" ∷ []) ≡ false → word ∷ words ≡ record_words r → ⊥
no_record_keyword word words r isnt are =
    true≢false (sym (record_keyword r)
    ∙ sym (ap (λ (ws : List (List ℕ)). is_one (get_or ws 0 []) (codes "event" ∷ codes "announce" ∷ codes "withdraw" ∷ [])) are) ∙ isnt)

-- the words behind a record's first, where the next is one origin: this and a tag
name_of : (f : Form) (r : Record) → IsRecord f r → (get_or (record_words r) 1 [] ≡ codes "*" → ⊥) → (origin : ℕ) × (tag : Moment) × (origin < most_origins f) × IsTagOf f tag
    × (get_or (record_words r) 1 [] ≡ decimal origin) × (get_or (record_words r) 2 [] ≡ decimal tag.time)
    × (get_or (record_words r) 3 [] ≡ decimal tag.microstep)
name_of f (Event origin tag input value) fits other = (origin, tag, fits.origin_fits, fits.tag_fits, refl, refl, refl)
name_of f (Withdraw origin tag) fits other = (origin, tag, fits.origin_fits, fits.tag_fits, refl, refl, refl)
name_of f (Announce origin tag events withdrawn) fits other = (origin, tag, fits.origin_fits, fits.tag_fits, refl, refl, refl)
name_of f (Joint tag events withdrawn) fits other = absurd (other refl)

pub name_words : (f : Form) (word a b c : List ℕ) (words : List (List ℕ)) (r : Record) → IsRecord f r
    → word ∷ a ∷ b ∷ c ∷ words ≡ record_words r → (a ≡ codes "*" → ⊥)
    → (origin : ℕ) × (tag : Moment) × (origin < most_origins f) × IsTagOf f tag × (a ≡ decimal origin) × (b ≡ decimal tag.time)
    × (c ≡ decimal tag.microstep)
name_words f word a b c words r fits are other =
    let told = name_of f r fits (λ star. other (ap (λ (ws : List (List ℕ)). get_or ws 1 []) are ∙ star)) in (
      told.0,
      told.1,
      told.2,
      told.3,
      ap (λ (ws : List (List ℕ)). get_or ws 1 []) are ∙ told.4,
      ap (λ (ws : List (List ℕ)). get_or ws 2 []) are ∙ told.5,
      ap (λ (ws : List (List ℕ)). get_or ws 3 []) are ∙ told.6,
    )

-- behind the tag of a withdrawal stands nothing
pub withdrawal_words : (a b c : List ℕ) (words : List (List ℕ)) (r : Record)
    → codes "withdraw" ∷ a ∷ b ∷ c ∷ words ≡ record_words r → length words ≡ 0
withdrawal_words a b c words (Withdraw origin tag) are = omega (arith, ap length are)
withdrawal_words a b c words (Event origin tag input value) are =
    absurd (omega (arith, ap (λ (ws : List (List ℕ)). get_or (get_or ws 0 []) 0 0) are))
withdrawal_words a b c words (Announce origin tag events withdrawn) are =
    absurd (omega (arith, ap (λ (ws : List (List ℕ)). get_or (get_or ws 0 []) 0 0) are))
withdrawal_words a b c words (Joint tag events withdrawn) are =
    absurd (omega (arith, ap (λ (ws : List (List ℕ)). get_or (get_or ws 0 []) 0 0) are))

-- behind the tag of an event stand an input and a value
pub event_operands : (f : Form) (a b c : List ℕ) (words : List (List ℕ)) (r : Record) → IsRecord f r
    → codes "event" ∷ a ∷ b ∷ c ∷ words ≡ record_words r
    → (input : ℕ) × (value : ℤ) × (input < most_inputs f) × FitsSigned w64 value × (words ≡ decimal input ∷ signed_decimal value ∷ [])
event_operands f a b c words r fits are =
    let told = event_words f (a ∷ b ∷ c ∷ words) r fits are in
    (told.2, told.3, told.4.input_fits, told.4.value_fits, ap (λ (ws : List (List ℕ)). drop 3 ws) told.5)

-- behind the tag of an announcement stand two counts
pub announcement_operands : (f : Form) (a b c : List ℕ) (words : List (List ℕ)) (r : Record) → IsRecord f r
    → codes "announce" ∷ a ∷ b ∷ c ∷ words ≡ record_words r → (a ≡ codes "*" → ⊥)
    → (events : ℕ) × (withdrawn : ℕ) × (events ≤ most_records f) × (withdrawn ≤ most_records f)
    × (words ≡ decimal events ∷ decimal withdrawn ∷ [])
announcement_operands f a b c words r fits are other =
    let told = announcement_words f (a ∷ b ∷ c ∷ words) r fits are (λ word more e. other (ap (λ (ws : List (List ℕ)). get_or ws 0 []) e)) in
    (told.2, told.3, told.4.events_fit, told.4.withdrawn_fit, ap (λ (ws : List (List ℕ)). drop 3 ws) told.5)
