-- The line of a seat: where it ends, and that it says one thing.
use Rattle.std.proofs.Common.{◌≡◌, ◌&&◌, ◌∙◌, ℕ, zero, suc, ◌+◌, ◌/◌, ◌%◌, ◌<◌, ◌^◌, Bool, true, ltb, cond, List, [], ◌∷◌, ◌++◌, length, take, drop, slice_index, Some, None, Result, Ok, Err, decimal, get_or, ap, sym, subst, refl, inl, inr, arith, append_assoc}
use Rattle.std.proofs.lemmas.Bool.{and_from, and_parts, cases_Bool, cases_eq, cases_lt, ltb-false, ne_eqb, true≢false}
use Rattle.std.proofs.lemmas.Fmt.{decimal_injective}
use Rattle.std.proofs.lemmas.List.{drop_more, get_or-take, length-take-le, take-append-drop}
use Rattle.std.proofs.lemmas.List.Quantifiers.{position-Some}
use Rattle.std.proofs.lemmas.List.Sums.{fails_before_first}
use Rattle.std.specs.List.{join_with_byte, position, position_or_len, slice_split}
use Rattle.std.specs.Prelude.{MatchResult}
use Rattle.hex.proofs.HexLemmas.{decode_of-encode_lower, decode_sized-encode_lower}
use Rattle.hex.specs.Hex.{IsBytes, decode_of, decode_sized, encode_lower, encode_with, lower_digits}
use Rattle.hex.specs.declared.error.FromHexError.{FromHexError}
use Rattle.warp_tag.proofs.Lists.{some_not_none}
use Rattle.warp_record.specs.Lines.{IsOneLine, is_end}
use Rattle.warp_record.specs.Number.{is_space}
use Rattle.warp_record.proofs.LineCuts.{first_line}
use Rattle.warp_record.proofs.PlainWords.{are_plain, is_plain, joined_if_plain, plain_number, words_of_text}
use Rattle.warp_seats.specs.declared.seat.Said.{Said}
use Rattle.warp_seats.specs.Text.{CanSay, seat_line, seat_words}

-- the digits of a digest say it
pub digest_read : (text digest out : List ℕ) (r : Result Unit FromHexError) →
    MatchResult (decode_sized text 32) (λ bytes. (r ≡ Ok tt) × (out ≡ bytes)) (λ e. r ≡ Err e) → IsBytes digest → length digest ≡ 32 →
    text ≡ encode_lower digest → (r ≡ Ok tt) × (out ≡ digest)
digest_read text digest out r h bytes len is =
    let e : decode_sized text 32 ≡ Ok digest = ap (λ t. decode_sized t 32) is ∙ decode_sized-encode_lower digest 32 len bytes in
    subst (λ d. MatchResult d (λ bytes. (r ≡ Ok tt) × (out ≡ bytes)) (λ e. r ≡ Err e)) e h

abbrev ok_or : Result (List ℕ) FromHexError → List ℕ
ok_or (Ok bytes) = bytes
ok_or (Err e) = []

digest_one : (a b : List ℕ) → IsBytes a → IsBytes b → encode_lower a ≡ encode_lower b → a ≡ b
digest_one a b x y h = ap ok_or (sym (decode_of-encode_lower a x) ∙ ap decode_of h ∙ decode_of-encode_lower b y)

-- what is spelled has no space and no line feed
abbrev all_plain : ℕ → Bool
all_plain zero = true
all_plain (suc k) = ltb 32 (slice_index lower_digits k) && all_plain k

plain_below : (n k : ℕ) → all_plain n ≡ true → k < n → ltb 32 (slice_index lower_digits k) ≡ true
plain_below zero k h few = absurd (omega (arith, few))
plain_below (suc n) k h few = let p = and_parts (ltb 32 (slice_index lower_digits n)) (all_plain n) h in
    elim (cases_lt k n) [
      | inl below ↦ plain_below n k p.1 below
      | inr top ↦ let e : n ≡ k = omega (arith, few, top) in subst (λ m. ltb 32 (slice_index lower_digits m) ≡ true) e p.0
    ]

digit_plain : (k : ℕ) → k < 16 → ltb 32 (slice_index lower_digits k) ≡ true
digit_plain k h = plain_below 16 k refl h

plain_hex : (bytes : List ℕ) → IsBytes bytes → is_plain (encode_lower bytes) ≡ true
unfolding encode_with
plain_hex [] h = refl
plain_hex (b ∷ rest) h =
    let small : b < 256 = h 0 in
    and_from (ltb 32 (slice_index lower_digits (b / 16))) _ (digit_plain (b / 16) (omega (arith, small)))
    (and_from (ltb 32 (slice_index lower_digits (b % 16))) _ (digit_plain (b % 16) (omega arith))
    (plain_hex rest (λ k. h (suc k))))

pub plain_seat : (n : ℕ) (said : Said) → n < 2 ^ 64 → CanSay said → are_plain (seat_words n said) ≡ true
plain_seat n said few can =
    let digest : are_plain (encode_lower said.digest ∷ []) ≡ true = and_from (is_plain (encode_lower said.digest)) true (plain_hex said.digest can.bytes) refl in
    plain_number n (decimal said.generation ∷ encode_lower said.digest ∷ []) few
    (plain_number said.generation (encode_lower said.digest ∷ []) (omega (arith, can.generation)) digest)

pub words_are : (line : List ℕ) (n : ℕ) (said : Said) → n < 2 ^ 64 → CanSay said → line ≡ join_with_byte 32 (seat_words n said) →
    slice_split is_space line ≡ seat_words n said
words_are line n said few can is = words_of_text line (seat_words n said) (omega arith) (plain_seat n said few can) is

pub one_line : (n : ℕ) (said : Said) → n < 2 ^ 64 → CanSay said → IsOneLine (join_with_byte 32 (seat_words n said))
one_line n said few can = joined_if_plain (seat_words n said) (plain_seat n said few can)

-- the line in front of a text
pub cut_is : (text line behind rest : List ℕ) (n : ℕ) (said : Said) → n < 2 ^ 64 → CanSay said → IsOneLine line →
    text ≡ line ++ 10 ∷ behind → text ≡ seat_line n said ++ rest → (line ≡ join_with_byte 32 (seat_words n said)) × (behind ≡ rest)
cut_is text line behind rest n said few can one cut is =
    first_line line (join_with_byte 32 (seat_words n said)) behind rest one (one_line n said few can)
    (sym cut ∙ is ∙ append_assoc (join_with_byte 32 (seat_words n said)) (10 ∷ []) rest)

line_behind : (byte : ℕ) (bytes : List ℕ) → IsOneLine (byte ∷ bytes) → IsOneLine bytes
line_behind byte bytes one = λ k d below. one (suc k) d (omega (arith, below))

not_one : (line behind : List ℕ) → IsOneLine (line ++ 10 ∷ behind) → ⊥
not_one [] behind one = true≢false (one 0 0 (omega arith))
not_one (byte ∷ line) behind one = not_one line behind (line_behind byte (line ++ 10 ∷ behind) one)

pub no_line : (text rest : List ℕ) (n : ℕ) (said : Said) → IsOneLine text → text ≡ seat_line n said ++ rest → ⊥
no_line text rest n said one is =
    not_one (join_with_byte 32 (seat_words n said)) rest
    (subst IsOneLine (is ∙ append_assoc (join_with_byte 32 (seat_words n said)) (10 ∷ []) rest) one)

abbrev second : List (List ℕ) → List ℕ
second (a ∷ b ∷ rest) = b
second words = []

abbrev third : List (List ℕ) → List ℕ
third (a ∷ b ∷ c ∷ rest) = c
third words = []

abbrev fourth : List (List ℕ) → List ℕ
fourth (a ∷ b ∷ c ∷ d ∷ rest) = d
fourth words = []

-- a text begins with the line of one seat
pub record IsSame (m n : ℕ) (a b : Said) (rest more : List ℕ) : Type 0 where
  pub origin : m ≡ n
  pub said : a ≡ b
  pub behind : rest ≡ more

pub line_same : (m n : ℕ) (said other : Said) (rest more : List ℕ) → m < 2 ^ 64 → n < 2 ^ 64 → CanSay said → CanSay other →
    seat_line m said ++ rest ≡ seat_line n other ++ more → IsSame m n said other rest more
line_same m n said other rest more few_m few_n can_said can_other is =
    let cut = cut_is (seat_line m said ++ rest) (join_with_byte 32 (seat_words m said)) rest more n other few_n can_other
    (one_line m said few_m can_said) (append_assoc (join_with_byte 32 (seat_words m said)) (10 ∷ []) rest) is in
    let words : seat_words m said ≡ seat_words n other =
    sym (words_are (join_with_byte 32 (seat_words m said)) m said few_m can_said refl)
    ∙ words_are (join_with_byte 32 (seat_words m said)) n other few_n can_other cut.0 in
    let generation : said.generation ≡ other.generation =
    decimal_injective said.generation other.generation (omega (arith, can_said.generation)) (omega (arith, can_other.generation)) (ap third words) in
    let digest : said.digest ≡ other.digest = digest_one said.digest other.digest can_said.bytes can_other.bytes (ap fourth words) in
    record {
      origin = decimal_injective m n few_m few_n (ap second words);
      said = λ i. record { generation = generation i; digest = digest i };
      behind = cut.1;
    }

-- where the first line feed is
apart_at : {X : Type 0} (xs : List X) (k : ℕ) (d : X) → k < length xs → xs ≡ take k xs ++ get_or xs k d ∷ drop (k + 1) xs
apart_at xs k d below = sym (take-append-drop k xs) ∙ ap (λ ys. take k xs ++ ys) (drop_more xs k d below)

is_at : (line : List ℕ) (place : ℕ) → position is_end line ≡ Some place → get_or line place 0 ≡ 10
is_at line place at = elim (cases_eq (get_or line place 0) 10) [
  | inl is ↦ is
  | inr other ↦ absurd (true≢false (sym (position-Some is_end line place 0 at).1 ∙ ne_eqb (get_or line place 0) 10 other))
]

pub cut_there : (line : List ℕ) (place : ℕ) → position is_end line ≡ Some place → line ≡ take place line ++ 10 ∷ drop (place + 1) line
cut_there line place at =
    apart_at line place 0 (position-Some is_end line place 0 at).0
    ∙ ap (λ (b : ℕ). take place line ++ b ∷ drop (place + 1) line) (is_at line place at)

pub none_in_front : (line : List ℕ) (place : ℕ) → position is_end line ≡ Some place → IsOneLine (take place line)
none_in_front line place at k d below =
    let here = position-Some is_end line place d at in
    let long = length-take-le place line (omega (arith, here.0)) in
    let before : k < place = omega (arith, below, long) in
    ap is_end (get_or-take place line k d before) ∙ here.2 k before

pub none_at_all : (line : List ℕ) → position is_end line ≡ None → IsOneLine line
none_at_all line at k d below =
    elim (cases_Bool (ltb (position_or_len is_end line) (length line))) [
      | inl some ↦
          absurd (some_not_none (position_or_len is_end line)
          (sym (ap (λ (b : Bool). cond b (Some (position_or_len is_end line)) None) some) ∙ at))
      | inr not_some ↦
          fails_before_first is_end line k d
          (omega (arith, below, ltb-false (position_or_len is_end line) (length line) not_some))
    ]
