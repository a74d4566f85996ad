-- The first word of a text, read byte by byte.
use Rattle.std.proofs.Common.{◌≡◌, ℕ, zero, suc, ◌+◌, ◌-◌, ◌<◌, ◌≤◌, inl, inr, true, false, not, List, [], ◌∷◌, length, get_or, take, drop, decimal, ℤ, FitsSigned, w64, sym, ap, ◌∙◌, refl, arith, true≢false}
use Rattle.std.specs.Char.{digit_value}
use Rattle.std.specs.Fmt.{signed_decimal}
use Rattle.std.specs.List.{slice_split, join_with_byte, before_first, position_or_len}
use Rattle.std.specs.Str.Parse.{AllDigits, digits_value}
use Rattle.std.proofs.lemmas.Bool.{cases_lt, ne_eqb}
use Rattle.std.proofs.lemmas.Int.Digits.{digits_value_more, digits_more}
use Rattle.std.proofs.lemmas.List.{length-take, get_or-take, drop_all, drop_more, take_all, take_rest}
use Rattle.std.proofs.lemmas.List.Splits.{slice_split_first, slice_split_none, length-slice_split}
use Rattle.std.proofs.lemmas.List.Sums.{prefix_len-le-length, fails_before_first, passes_at_first}
use Rattle.std.proofs.lemmas.Str.Parse.{digits_value-take-le}
use Rattle.warp_record.specs.Number.{is_space}
use Rattle.warp_record.specs.inner.Behind.{words_behind}
use Rattle.warp_record.proofs.Numerals.{all_digits_at, text_of_digits}
use Rattle.warp_record.proofs.PlainWords.{word_if_plain, plain_signed}
use Rattle.warp_record.proofs.WordCuts.{joined_words}

-- the first space stands within the text or at its end
pub front_within : (bytes : List ℕ) → position_or_len is_space bytes ≤ length bytes
front_within bytes = prefix_len-le-length (λ (byte : ℕ). not (is_space byte)) bytes

-- one more byte that is no space
pub front_goes_on : (bytes : List ℕ) (i : ℕ) → i ≤ position_or_len is_space bytes → i < length bytes
    → is_space (get_or bytes i 0) ≡ false → i + 1 ≤ position_or_len is_space bytes
front_goes_on bytes i le below other =
    elim (cases_lt i (position_or_len is_space bytes)) [
      | inl less ↦ omega (arith, less)
      | inr over ↦
          let here : position_or_len is_space bytes ≡ i = omega (arith, le, over) in
          let space = passes_at_first is_space bytes 0 (omega (arith, below, here)) in
          absurd (true≢false (sym space ∙ ap (λ (n : ℕ). is_space (get_or bytes n 0)) here ∙ other))
    ]

-- a space, or the end
pub front_ends : (bytes : List ℕ) (i : ℕ) → i ≤ position_or_len is_space bytes
    → (i < length bytes → is_space (get_or bytes i 0) ≡ true) → i ≡ position_or_len is_space bytes
front_ends bytes i le stops =
    elim (cases_lt i (position_or_len is_space bytes)) [
      | inl less ↦
          let none = fails_before_first is_space bytes i 0 less in
          absurd (true≢false (sym (stops (omega (arith, less, front_within bytes))) ∙ none))
      | inr over ↦ omega (arith, le, over)
    ]

-- a byte of the first word is a digit, where all of these are
pub front_digit : (bytes : List ℕ) (i : ℕ) → i < position_or_len is_space bytes → AllDigits 10 (before_first is_space bytes)
    → digit_value (get_or bytes i 0) < 10
front_digit bytes i below all =
    let short : i < length (before_first is_space bytes) =
    omega (arith, below, length-take (position_or_len is_space bytes) bytes, front_within bytes) in
    rw (← get_or-take (position_or_len is_space bytes) bytes i 0 below) (all_digits_at (before_first is_space bytes) i all short)

-- a digit is no space
pub digit_no_space : (byte : ℕ) → digit_value byte < 10 → is_space byte ≡ false
digit_no_space byte digit = ne_eqb byte 32 (λ is. let low : digit_value 32 < 10 = rw is at digit in absurd (omega (arith, low)))

take_of_take : (i n : ℕ) (bytes : List ℕ) → i ≤ n → take i (take n bytes) ≡ take i bytes
take_of_take zero n bytes le = refl
take_of_take (suc i) zero bytes le = absurd (omega (arith, le))
take_of_take (suc i) (suc n) [] le = refl
take_of_take (suc i) (suc n) (byte ∷ bytes) le = ap (λ (l : List ℕ). byte ∷ l) (take_of_take i n bytes (omega (arith, le)))

-- the number of a front of the first word is not greater than the word's
pub front_value : (bytes : List ℕ) (i : ℕ) → i ≤ position_or_len is_space bytes
    → digits_value 10 (take i bytes) ≤ digits_value 10 (before_first is_space bytes)
front_value bytes i le =
    rw (← take_of_take i (position_or_len is_space bytes) bytes le)
    (digits_value-take-le 10 (before_first is_space bytes) i (omega arith))

-- the words of a text: its first word, and those behind the space
pub words_of_front : (bytes : List ℕ)
    → slice_split is_space bytes ≡ before_first is_space bytes ∷ words_behind (drop (position_or_len is_space bytes) bytes)
words_of_front bytes =
    let first : ℕ = position_or_len is_space bytes in
    elim (cases_lt first (length bytes)) [
      | inl less ↦
          slice_split_first is_space bytes 0 less
          ∙ ap (λ (words : List (List ℕ)). before_first is_space bytes ∷ words) (sym (ap words_behind (drop_more bytes first 0 less)))
      | inr over ↦
          let all : take first bytes ≡ bytes = take_all first bytes over in
          let none : drop first bytes ≡ [] = drop_all first bytes over in
          slice_split_none is_space bytes (λ k d below. fails_before_first is_space bytes k d (omega (arith, below, over)))
          ∙ ap (λ (word : List ℕ). word ∷ []) (sym all)
          ∙ ap (λ (words : List (List ℕ)). take first bytes ∷ words) (sym (ap words_behind none))
    ]

-- the first word is the one before the first space
pub front_word : (bytes word : List ℕ) (words : List (List ℕ)) → slice_split is_space bytes ≡ word ∷ words → before_first is_space bytes ≡ word
front_word bytes word words are =
    let same : before_first is_space bytes ∷ words_behind (drop (position_or_len is_space bytes) bytes) ≡ word ∷ words =
    sym (words_of_front bytes) ∙ are in
    cc

-- the first word was cut off
pub cut_front : (bytes word : List ℕ) (count : ℕ) → count ≡ position_or_len is_space bytes → before_first is_space bytes ≡ word
    → slice_split is_space bytes ≡ word ∷ words_behind (take (length bytes - count) (drop count bytes))
cut_front bytes word count is here =
    words_of_front bytes
    ∙ ap (λ (w : List ℕ). w ∷ words_behind (drop (position_or_len is_space bytes) bytes)) here
    ∙ ap (λ (l : List ℕ). word ∷ words_behind l) (ap (λ (n : ℕ). drop n bytes) (sym is) ∙ sym (take_rest bytes count))

-- the words behind the first byte
pub behind_first : (text : List ℕ) → 1 ≤ length text → words_behind text ≡ slice_split is_space (take (length text - 1) (drop 1 text))
behind_first [] some = absurd (omega (arith, some))
behind_first (byte ∷ bytes) some = ap (slice_split is_space) (sym (take_rest (byte ∷ bytes) 1))

-- a text that is the text of a signed number is one word
pub one_signed : (bytes : List ℕ) (z : ℤ) → FitsSigned w64 z → bytes ≡ signed_decimal z → slice_split is_space bytes ≡ signed_decimal z ∷ []
one_signed bytes z fits is =
    ap (slice_split is_space) is ∙ slice_split_none is_space (signed_decimal z) (word_if_plain (signed_decimal z) (plain_signed z fits))

-- a text of one word is that word
pub text_of_one : (bytes word : List ℕ) → slice_split is_space bytes ≡ word ∷ [] → bytes ≡ word
text_of_one bytes word one = joined_words bytes ∙ ap (join_with_byte 32) one

-- at the end no word is left
pub at_end : (bytes : List ℕ) → length bytes ≡ 0 → words_behind bytes ≡ []
at_end [] end = refl
at_end (byte ∷ bytes) end = absurd (omega (arith, end))

-- where no word is left, that is the end
pub none_behind : (bytes : List ℕ) → words_behind bytes ≡ [] → length bytes ≡ 0
none_behind [] none = refl
none_behind (byte ∷ bytes) none = absurd (omega (arith, ap length none, length-slice_split is_space bytes))

-- a digit and a space behind it: the first word is the digit
pub one_digit_ends : (bytes : List ℕ) → 1 < length bytes → get_or bytes 1 0 ≡ 32 → digit_value (get_or bytes 0 0) < 10
    → 1 ≡ position_or_len is_space bytes
one_digit_ends bytes long space digit =
    let other = digit_no_space (get_or bytes 0 0) digit in
    let more = front_goes_on bytes 0 (omega arith) (omega (arith, long)) other in
    front_ends bytes 1 (omega (arith, more)) (λ below. ap is_space space)

-- and the digit writes its number
pub one_digit_value : (bytes : List ℕ) → 1 < length bytes → digit_value (get_or bytes 0 0) < 10
    → take 1 bytes ≡ decimal (digit_value (get_or bytes 0 0))
one_digit_value bytes long digit =
    let all = digits_more 10 bytes 0 (omega (arith, long)) tt digit in
    let value : digits_value 10 (take 1 bytes) ≡ digit_value (get_or bytes 0 0) = omega (arith, digits_value_more 10 bytes 0 (omega (arith, long))) in
    let one : length (take 1 bytes) ≡ 1 = omega (arith, long, length-take 1 bytes) in
    let text = text_of_digits (take 1 bytes) all (omega (arith, one)) (λ first. one) (omega (arith, value, digit)) in
    rw value at text
