-- Words of digits, and the decimal text of a number.
use Rattle.std.proofs.Common.{◌≡◌, ℕ, zero, suc, ◌+◌, ◌*◌, ◌<◌, ◌≤◌, ◌^◌, true, false, eqb, List, [], ◌∷◌, ◌++◌, length, get_or, take, decimal, drop, ◌-◌, ℤ, pos, negsuc, FitsSigned, w64, sym, ap, ◌∙◌, refl, arith}
use Rattle.std.proofs.Math.Dec.{eqb-suc-zero}
use Rattle.std.specs.Char.{digit_value}
use Rattle.std.specs.Fmt.{signed_decimal}
use Rattle.std.proofs.lemmas.List.{take_all, length-drop, length-take, take-take}
use Rattle.std.proofs.Math.Seq.{take-append_seam, take-append-add}
use Rattle.std.specs.Str.Parse.{AllDigits, digits_value}
use Rattle.std.proofs.lemmas.Str.Parse.{IsNumeralModel, numerals_by_value, tells_digits, digit_at, digits_value_short}
use Rattle.std.proofs.lemmas.Int.Digits.{digits_value_more}
use Rattle.std.proofs.lemmas.Str.Parse.{digits_value-take-le}
use Rattle.std.proofs.lemmas.Fmt.{decimal-digits_value, decimal_is_IsNumeral, first_decimal, decimal_digit, decimal_injective}

-- the words of `digits`
pub own : IsNumeralModel (AllDigits 10) (digits_value 10)
own = numerals_by_value (AllDigits 10) tells_digits

pub all_digits_at : (ds : List ℕ) (i : ℕ) → AllDigits 10 ds → i < length ds → digit_value (get_or ds i 0) < 10
all_digits_at [] i all below = absurd (omega arith)
all_digits_at (d ∷ ds) zero all below = all.0
all_digits_at (d ∷ ds) (suc i) all below = all_digits_at ds i all.1 (omega arith)

-- among digits whose number fits, one more digit fits
pub next_fits : (ds : List ℕ) (i n : ℕ) → i < length ds → AllDigits 10 ds → digits_value 10 ds < 2 ^ 64
    → n ≡ digits_value 10 (take i ds) → (digit_value (get_or ds i 0) < 10) × (n * 10 + digit_value (get_or ds i 0) < 2 ^ 64)
next_fits ds i n below all fits is = (
  all_digits_at ds i all below,
  omega (arith, digits_value_more 10 ds i below, digits_value-take-le 10 ds (i + 1) (omega arith), is),
)

-- what so few digits write is small
pub few_fit : (ds : List ℕ) (i k : ℕ) → i ≤ k → AllDigits 10 (take i ds) → digits_value 10 (take i ds) < 10 ^ k
few_fit ds i k le all = digits_value_short own (take i ds) k all (omega (arith, le, length-take i ds))

-- the text of a number longer than one byte does not begin with 0
pub no_leading_zero : (n : ℕ) → n < 2 ^ 64 → 1 < length (decimal n) → get_or (decimal n) 0 0 ≡ 48 → ⊥
no_leading_zero zero fits long zero_first = omega (arith, ap length (decimal_digit 0 (omega arith)))
no_leading_zero (suc n) fits long zero_first = omega (arith, first_decimal (suc n) (omega arith) fits)

-- digits with no leading zero are the text of their number
pub text_of_digits : (ds : List ℕ) → AllDigits 10 ds → 0 < length ds → (get_or ds 0 0 ≡ 48 → length ds ≡ 1)
    → digits_value 10 ds < 2 ^ 64 → ds ≡ decimal (digits_value 10 ds)
text_of_digits ds all some one fits = sym (decimal-digits_value own ds all some one fits)

-- a word that is no digits whose number fits is the text of no number that fits
pub no_text : (word : List ℕ) (n : ℕ) → n < 2 ^ 64 → (AllDigits 10 word × (digits_value 10 word < 2 ^ 64) → ⊥) → word ≡ decimal n → ⊥
no_text word n fits none is =
    let numeral = decimal_is_IsNumeral n fits in
    let all : AllDigits 10 word = rw is numeral.0.1 in
    let value : digits_value 10 word ≡ n = rw is numeral.1 in
    none (all, omega (arith, value))

-- digits of which a word is the text write its number
pub value_of_text : (word : List ℕ) (n : ℕ) → n < 2 ^ 64 → word ≡ decimal n → digits_value 10 word ≡ n
value_of_text word n fits is = rw is (decimal_is_IsNumeral n fits).1

-- the text of a number is digits, which write it
pub digits_of_text : (word : List ℕ) (n : ℕ) → n < 2 ^ 64 → word ≡ decimal n → AllDigits 10 word × (digits_value 10 word ≡ n)
digits_of_text word n fits is =
    let numeral = decimal_is_IsNumeral n fits in
    (rw is numeral.0.1, rw is numeral.1)

pub text_not_empty : (word : List ℕ) (n : ℕ) → n < 2 ^ 64 → word ≡ decimal n → 0 < length word
text_not_empty word n fits is = rw is (decimal_is_IsNumeral n fits).0.0

pub text_no_leading_zero : (word : List ℕ) (n : ℕ) → n < 2 ^ 64 → word ≡ decimal n → get_or word 0 0 ≡ 48 → 1 < length word → ⊥
text_no_leading_zero word n fits is first long =
    no_leading_zero n fits (rw is at long) (rw is at first)

pub empty_length : (n : ℕ) → true ≡ eqb n 0 → n ≡ 0
empty_length zero test = refl
empty_length (suc n) test = cc (eqb-suc-zero n)

pub some_length : (n : ℕ) → false ≡ eqb n 0 → 0 < n
some_length zero test = cc
some_length (suc n) test = omega arith

-- a word that begins with a minus is the text of a number below 0 alone
pub minus_text : (word : List ℕ) (z : ℤ) → FitsSigned w64 z → get_or word 0 0 ≡ 45 → word ≡ signed_decimal z
    → (m : ℕ) × (0 < m) × (m ≤ 2 ^ 63) × (take (length word - 1) (drop 1 word) ≡ decimal m)
minus_text word (pos n) fits minus is =
    let numeral = decimal_is_IsNumeral n (omega (arith, fits.sfits)) in
    let range = digit_at (decimal n) 0 numeral.0.1 numeral.0.0 in
    let first : get_or (decimal n) 0 0 ≡ 45 = rw is at minus in
    absurd (omega (arith, range.0, first))
minus_text word (negsuc n) fits minus is =
    let rest : drop 1 word ≡ decimal (suc n) = ap (drop 1) is in
    let all : take (length word - 1) (drop 1 word) ≡ drop 1 word =
    take_all (length word - 1) (drop 1 word) (omega (arith, length-drop 1 word)) in
    (suc n, omega arith, omega (arith, fits.sfits), all ∙ rest)

-- 0 is not spelled with a minus
pub no_minus_zero : (rest : List ℕ) (m n : ℕ) → 0 < m → m ≤ 2 ^ 63 → n ≡ 0 → rest ≡ decimal m → rest ≡ decimal n → ⊥
no_minus_zero rest m n some fits none is_m is_n =
    omega (arith, some, none, decimal_injective m n (omega arith) (omega arith) (sym is_m ∙ is_n))

-- a block at the end of a list, of which the word at its front is left
pub block_left : (old word block more : List ℕ) (n k m : ℕ) → n ≡ length old → k ≡ length word → k ≤ m → block ≡ word ++ more
    → take (n + k) (old ++ take m block) ≡ old ++ word
block_left old word block more n k m is_n is_k le is =
    ap (λ (i : ℕ). take (i + k) (old ++ take m block)) is_n
    ∙ take-append-add old (take m block) k
    ∙ ap (λ (l : List ℕ). old ++ l) (take-take k m block le ∙ ap (take k) is ∙ ap (λ (i : ℕ). take i (word ++ more)) is_k ∙ take-append_seam word more)

-- a word that begins with no minus is the text of a number that is not below 0 alone
pub plain_text : (word : List ℕ) (z : ℤ) → FitsSigned w64 z → (get_or word 0 0 ≡ 45 → ⊥) → word ≡ signed_decimal z
    → (m : ℕ) × (m < 2 ^ 63) × (word ≡ decimal m)
plain_text word (pos n) fits plain is = (n, omega (arith, fits.sfits), is)
plain_text word (negsuc n) fits plain is = absurd (plain (ap (λ (l : List ℕ). get_or l 0 0) is))

-- the text of a signed number is not empty
pub signed_not_empty : (word : List ℕ) (z : ℤ) → FitsSigned w64 z → word ≡ signed_decimal z → 0 < length word
signed_not_empty word (pos n) fits is = text_not_empty word n (omega (arith, fits.sfits)) is
signed_not_empty word (negsuc n) fits is = omega (arith, ap length is)
