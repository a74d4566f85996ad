-- What the words of a move say: a function that gives back the move whose words it gets, so no two have the same words.
use Rattle.std.proofs.Common.{◌≡◌, ℕ, ◌<◌, ◌≤◌, ◌^◌, Bool, true, if◌then◌else◌, List, [], ◌∷◌, length, get_or, drop, codes, decimal, sym, ap, subst, ◌∙◌, refl, arith}
use Rattle.std.specs.Str.Parse.{digits_value}
use Rattle.std.proofs.lemmas.Fmt.{decimal_is_IsNumeral, decimal_injective}
use Rattle.warp_tag.specs.Limits.{most_records}
use Rattle.warp_tag.specs.declared.form.Form.{Form}
use Rattle.warp_tag.proofs.Forms.{records_widen}
use Rattle.warp_record.specs.declared.record.Record.{Record}
use Rattle.warp_record.specs.Record.{IsRecord, record_words}
use Rattle.warp_record.proofs.LineWords.{words_of_record}
use Rattle.warp_record.proofs.Wider.{record_widens}
use Rattle.warp_record.proofs.WordReadings.{is_first, number_at, record_said, record_back}
use Rattle.warp_record.proofs.WordTexts.{is_one}
use Rattle.warp_world.specs.Moves.{IsMove, most_replicas, move_words}
use Rattle.warp_world.specs.declared.moves.Move.{Move}
use Rattle.warp_world.specs.declared.moves.Move.TheVariants.{Make, Carry, Collect, Settle, Restart}

-- a number is read from its text
value : (n : ℕ) → n < 2 ^ 64 → digits_value 10 (decimal n) ≡ n
value n fits = (decimal_is_IsNumeral n fits).1

-- the move that the words say
abbrev move_said : List (List ℕ) → Move
move_said words =
    if is_first words (codes "make") then Make (number_at words 1) (record_said (drop 2 words))
    else (if is_first words (codes "carry") then Carry (number_at words 1) (number_at words 2) (number_at words 3)
    else (if is_first words (codes "collect") then Collect (number_at words 1)
    else (if is_first words (codes "settle") then Settle (number_at words 1)
    else Restart (number_at words 1))))

move_back : (f : Form) (next : Move) → IsMove f next → move_said (move_words next) ≡ next
move_back f (Make replica said) fits = rw (value replica (omega (arith, fits.0)), record_back said (record_widens f said fits.1)) refl
move_back f (Carry from place to) fits =
    let within = records_widen f in
    rw (value from (omega (arith, fits.0)), value place (omega (arith, fits.1, within)), value to (omega (arith, fits.2))) refl
move_back f (Collect replica) fits = rw (value replica (omega (arith, fits))) refl
move_back f (Settle replica) fits = rw (value replica (omega (arith, fits))) refl
move_back f (Restart replica) fits = rw (value replica (omega (arith, fits))) refl

-- two moves in range with the same words are one move, also where each is in a form of its own
pub same_move : (f g : Form) (one other : Move) → IsMove f one → IsMove g other → move_words one ≡ move_words other → one ≡ other
same_move f g one other fits_one fits_other same =
    sym (move_back f one fits_one) ∙ ap move_said same ∙ move_back g other fits_other

-- two numbers of replicas with the same text are one number
pub same_count : (one other : ℕ) → one ≤ 16 → other ≤ 16 → decimal one ≡ decimal other → one ≡ other
same_count one other fits_one fits_other same = decimal_injective one other (omega arith) (omega arith) same

-- ---- what stands behind a keyword

-- the move is the one that its words say
move_is : (f : Form) (words : List (List ℕ)) (next : Move) → IsMove f next → words ≡ move_words next → next ≡ move_said words
move_is f words next fits are = sym (move_back f next fits) ∙ ap move_said (sym are)

pub make_words : (f : Form) (words : List (List ℕ)) (next : Move) → IsMove f next → codes "make" ∷ words ≡ move_words next
    → (replica : ℕ) × (said : Record) × (replica < most_replicas) × IsRecord f said × (words ≡ decimal replica ∷ record_words said)
make_words f words next fits are =
    let is : next ≡ Make (number_at (codes "make" ∷ words) 1) (record_said (drop 2 (codes "make" ∷ words))) = move_is f _ next fits are in
    let range = subst (IsMove f) is fits in
    (_, _, range.0, range.1, ap (λ (ws : List (List ℕ)). drop 1 ws) (are ∙ ap move_words is))

pub carry_words : (f : Form) (words : List (List ℕ)) (next : Move) → IsMove f next → codes "carry" ∷ words ≡ move_words next
    → (from : ℕ) × (place : ℕ) × (to : ℕ) × (from < most_replicas) × (place ≤ most_records f) × (to < most_replicas)
    × (words ≡ decimal from ∷ decimal place ∷ decimal to ∷ [])
carry_words f words next fits are =
    let all : List (List ℕ) = codes "carry" ∷ words in
    let is : next ≡ Carry (number_at all 1) (number_at all 2) (number_at all 3) = move_is f _ next fits are in
    let range = subst (IsMove f) is fits in
    (_, _, _, range.0, range.1, range.2, ap (λ (ws : List (List ℕ)). drop 1 ws) (are ∙ ap move_words is))

-- whether the first word is a keyword that stands before one word, or before more
abbrev short_key : List (List ℕ) → Bool
short_key words = is_one (get_or words 0 []) (codes "collect" ∷ codes "settle" ∷ codes "restart" ∷ [])

abbrev long_key : List (List ℕ) → Bool
long_key words = is_one (get_or words 0 []) (codes "make" ∷ codes "carry" ∷ [])

-- the second word
at_one : {words others : List (List ℕ)} → words ≡ others → get_or words 1 [] ≡ get_or others 1 []
at_one same = ap (λ (ws : List (List ℕ)). get_or ws 1 []) same

-- a move of two words is one of a replica alone
pub short_words : (f : Form) (word text : List ℕ) (next : Move) → IsMove f next → word ∷ text ∷ [] ≡ move_words next
    → (replica : ℕ) × (replica < most_replicas) × (text ≡ decimal replica)
    × (is_one word (codes "collect" ∷ codes "settle" ∷ codes "restart" ∷ []) ≡ true)
short_words f word text (Make replica said) fits are = absurd (omega (arith, ap length are, (words_of_record said).0))
short_words f word text (Carry from place to) fits are = absurd (omega (arith, ap length are))
short_words f word text (Collect replica) fits are = (replica, fits, at_one are, ap short_key are)
short_words f word text (Settle replica) fits are = (replica, fits, at_one are, ap short_key are)
short_words f word text (Restart replica) fits are = (replica, fits, at_one are, ap short_key are)

-- a move of more words is one of these two
pub long_words : (f : Form) (word : List ℕ) (words : List (List ℕ)) (next : Move) → IsMove f next → 1 < length words → word ∷ words ≡ move_words next
    → is_one word (codes "make" ∷ codes "carry" ∷ []) ≡ true
long_words f word words (Make replica said) fits long are = ap long_key are
long_words f word words (Carry from place to) fits long are = ap long_key are
long_words f word words (Collect replica) fits long are = absurd (omega (arith, long, ap length are))
long_words f word words (Settle replica) fits long are = absurd (omega (arith, long, ap length are))
long_words f word words (Restart replica) fits long are = absurd (omega (arith, long, ap length are))
