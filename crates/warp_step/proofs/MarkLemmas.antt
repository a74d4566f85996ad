-- Marks, bit by bit.
use Rattle.std.proofs.Common.{◌≡◌, ℕ, zero, suc, ◌+◌, ◌-◌, ◌*◌, ◌/◌, ◌%◌, ◌^◌, ◌<◌, ◌≤◌, inl, inr, bit_and, bit_or, w64, sym, ap, ◌∙◌, shr-shr, arith}
use Rattle.std.specs.Int.{bit_at, rotate_right, trailing_zeros}
use Rattle.std.specs.Int.Count.{trailing_of_zero}
use Rattle.std.proofs.lemmas.Bool.{cases_eq, cases_lt}
use Rattle.std.proofs.lemmas.Nat.{and_le_r, pow_pos}
use Rattle.std.proofs.lemmas.Nat.Bits.{bit_at-lt, bit_at-trailing_zeros, bit_at-zero, bit_at_and, bit_at_cat_high, bit_at_cat_low, bit_at_clear_other, bit_at_clear_same, bit_at_or, bit_at_set_same}
use Rattle.warp_step.specs.inner.Marks.{mark_at, marks_from, with_mark}

-- what is marked in one word or in another is marked in both together
pub joined_keeps : (word other m : ℕ) → mark_at word m ≡ 1 → mark_at (bit_or word other) m ≡ 1
joined_keeps word other m h = omega (arith, h, bit_at_or word other (m % 64), bit_at-lt other (m % 64))

pub joined_adds : (word other m : ℕ) → mark_at other m ≡ 1 → mark_at (bit_or word other) m ≡ 1
joined_adds word other m h = omega (arith, h, bit_at_or word other (m % 64), bit_at-lt word (m % 64))

-- with one number more, all that were marked are, and that one is
pub with_mark_keeps : (n word m : ℕ) → mark_at word m ≡ 1 → mark_at (with_mark n word) m ≡ 1
with_mark_keeps n word m h = joined_keeps word (1 * 2 ^ (n % 64) % 2 ^ 64) m h

pub with_mark_adds : (n word : ℕ) → mark_at (with_mark n word) n ≡ 1
with_mark_adds n word = bit_at_set_same w64 word (n % 64) (omega arith)

-- of so many numbers from one on each is marked
pub marks_from_mark : (first count k : ℕ) → k < count → mark_at (marks_from first count) (first + k) ≡ 1
marks_from_mark first zero k lt = absurd (omega (arith, lt))
marks_from_mark first (suc count) k lt = elim (cases_eq k count) [
  | inl last ↦
      ap (λ (j : ℕ). mark_at (marks_from first (suc count)) (first + j)) last
      ∙ with_mark_adds (first + count) (marks_from first count)
  | inr other ↦
      with_mark_keeps (first + count) (marks_from first count) (first + k)
      (marks_from_mark first count k (omega (arith, lt, other)))
]

-- where two words share no bit, what is marked in one is not in the other
pub apart : (word other m : ℕ) → bit_and word other ≡ 0 → mark_at other m ≡ 1 → mark_at word m ≡ 0
apart word other m none h =
    let both = bit_at_and word other (m % 64) in
    let zeros : bit_at (bit_and word other) (m % 64) ≡ 0 = ap (λ (w : ℕ). bit_at w (m % 64)) none ∙ bit_at-zero (m % 64) in
    omega (arith, both, zeros, h, bit_at-lt word (m % 64))

-- a bit of a word's low part
bit_low : (n i : ℕ) → i < 64 → bit_at (n % 2 ^ 64) i ≡ bit_at n i
bit_low n i lt =
    let whole : n / 2 ^ 64 * 2 ^ 64 + n % 2 ^ 64 ≡ n = omega arith in
    sym (bit_at_cat_low (n / 2 ^ 64) 64 (n % 2 ^ 64) i lt) ∙ ap (λ (k : ℕ). bit_at k i) whole

-- a bit of a shifted word
bit_shifted : (n k i : ℕ) → k ≤ i → bit_at (n * 2 ^ k) i ≡ bit_at n (i - k)
bit_shifted n k i le =
    let plain : n * 2 ^ k + 0 ≡ n * 2 ^ k = omega arith in
    sym (ap (λ (x : ℕ). bit_at x i) plain) ∙ bit_at_cat_high n k 0 i (pow_pos k) le

-- in a word that is turned to the right each bit stands so many places lower, and those that fall out come in at the top
pub turned : (word by i : ℕ) → by < 64 → i < 64 → bit_at (rotate_right w64 word by) i ≡ 0 → bit_at word ((by + i) % 64) ≡ 0
turned word by i small lt none =
    let k = by % 64 in
    let j = (64 - k) % 64 in
    let high = word / 2 ^ k in
    let low = word * 2 ^ j % 2 ^ 64 in
    let parts = bit_at_or high low i in
    elim (cases_lt (by + i) 64) [
      | inl within ↦
          let place : k + i ≡ (by + i) % 64 = omega (arith, small, within) in
          let zero_high : bit_at high i ≡ 0 = omega (arith, none, parts) in
          sym (ap (λ (x : ℕ). x % 2) (shr-shr word k i) ∙ ap (bit_at word) place) ∙ zero_high
      | inr past ↦
          let place : i - j ≡ (by + i) % 64 = omega (arith, small, lt, past) in
          let zero_low : bit_at low i ≡ 0 = omega (arith, none, parts) in
          sym (bit_low (word * 2 ^ j) i lt ∙ bit_shifted word j i (omega (arith, small, past)) ∙ ap (bit_at word) place) ∙ zero_low
    ]

-- below the lowest bit that is set, or where none is, each bit is zero
pub zeros_below : (word i : ℕ) → word < 2 ^ 64 → i < trailing_zeros w64 word → bit_at word i ≡ 0
zeros_below word i fits lt = elim (cases_eq word 0) [
  | inl none ↦ ap (λ (w : ℕ). bit_at w i) none ∙ bit_at-zero i
  | inr some ↦ (bit_at-trailing_zeros w64 word (omega (arith, some)) fits).2 i lt
]

-- a word without its lowest bit has the others, and where one of them is set the lowest is behind that bit's place
pub others_stay : (word i : ℕ) → 0 < i → i < 64 → bit_at (bit_and word 18446744073709551614) i ≡ 0 → bit_at word i ≡ 0
others_stay word i some short none = sym (bit_at_clear_other w64 word 0 (omega arith) i short (omega (arith, some))) ∙ none

pub past_lowest : (word : ℕ) → 0 < trailing_zeros w64 (bit_and word 18446744073709551614)
past_lowest word =
    let rest = bit_and word 18446744073709551614 in
    let fits : rest < 2 ^ 64 = omega (arith, and_le_r word 18446744073709551614) in
    let cleared : bit_at rest 0 ≡ 0 = bit_at_clear_same w64 word 0 (omega arith) in
    elim (cases_eq rest 0) [
      | inl none ↦
          let all : trailing_zeros w64 rest ≡ 64 = ap (trailing_zeros w64) none ∙ trailing_of_zero 64 in
          omega (arith, all)
      | inr some ↦ elim (cases_eq (trailing_zeros w64 rest) 0) [
        | inl lowest ↦
            let set : bit_at rest 0 ≡ 1 = sym (ap (bit_at rest) lowest) ∙ (bit_at-trailing_zeros w64 rest (omega (arith, some)) fits).1 in
            absurd (omega (arith, cleared, set))
        | inr past ↦ omega (arith, past)
      ]
    ]
