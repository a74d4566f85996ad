-- Digits at the front of eight bytes, found in all of them at once, and the number that they write, by arithmetic on one number.
use Rattle.std.proofs.Common.{◌≡◌, ℕ, zero, suc, ◌+◌, ◌-◌, ◌*◌, ◌/◌, ◌%◌, ◌^◌, ◌<◌, ◌≤◌, Bool, true, false, not, cond, leb, List, [], ◌∷◌, ◌++◌, map, length, get_or, take, replicate, bit_and, w8, w64, sym, refl, ap, ◌∙◌, leb-true, leb-false, length-take-le, length-take, length-append, mod-eq_of_lt, add-zero, pow-suc, pow-add, arith}
use Rattle.std.specs.Char.{digit_value}
use Rattle.std.specs.Int.{from_le_bytes}
use Rattle.std.specs.Int.Digits.{AllBelowBase, number_from_digits}
use Rattle.std.specs.List.{prefix_len, position_or_len}
use Rattle.std.specs.Str.Parse.{AllDigits, digits_value}
use Rattle.std.proofs.lemmas.Int.Digits.{digits_value_is}
use Rattle.std.proofs.lemmas.List.{length-map, length-replicate, take-take}
use Rattle.std.proofs.lemmas.Simd.{zip2_splat, zip2_splat_left, tops_compared, map-map, mask_l-mod, run_in_chunk_le, run_in_chunk_fails, run_in_chunk_stops}
use Rattle.std.proofs.lemmas.Str.{digit_value_digit}
use Rattle.std.proofs.lemmas.Str.Parse.{digit_from_value}
use lib.Arith.{digits_div, digits_mod, mod-mul}
use lib.Bits.{and_block, and_mask}
use lib.Lanes.{number_l, zip2, mask_l, top}
use native.Mathlib.Nat.{zero-mod, mul-div_cancel, mul-mod_left}
use Rattle.warp_record.specs.Number.{is_space}
use Rattle.warp_record.specs.inner.Eight.{less_zero, lanes_of, AreEight}
use Rattle.warp_record.proofs.WordFronts.{digit_no_space}

-- ---- which bytes are digits

-- the difference of two bytes, around the end of a byte
abbrev less : ℕ → ℕ → ℕ
less a b = (a + (2 ^ 8 - b)) % 2 ^ 8

abbrev other : ℕ → Bool
other byte = leb 10 (less_zero byte)

lane_digit : (x : ℕ) → x < 256 → other x ≡ false → digit_value x < 10
lane_digit x fits none =
    let low : less_zero x < 10 = leb-false 10 (less_zero x) none in
    let from : 48 ≤ x = omega (arith, low, fits) in
    let to : x ≤ 57 = omega (arith, low, fits) in
    omega (arith, digit_value_digit x (from, to), to)

lane_other : (x : ℕ) → other x ≡ true → digit_value x < 10 → ⊥
lane_other x marked digit =
    let high : 10 ≤ less_zero x = leb-true 10 (less_zero x) marked in
    let range = digit_from_value x digit in
    omega (arith, high, range.0, range.1)

-- the lanes that are no digits, as a mask
pub others_are : (bytes : List ℕ) → 8 ≤ length bytes
    → mask_l (map (top 7) (zip2 (λ a b. cond (leb a b) 255 0) (replicate 8 10) (zip2 less (take 8 bytes) (replicate 8 48)))) % 2 ^ 64
    ≡ mask_l (map other (take 8 bytes))
others_are bytes long =
    let v = take 8 bytes in
    let eight : length v ≡ 8 = length-take-le 8 bytes long in
    let lanes : zip2 less v (replicate 8 48) ≡ map less_zero v = zip2_splat less v 8 48 eight in
    let wide : length (map less_zero v) ≡ 8 = omega (arith, length-map v less_zero, eight) in
    let masks : zip2 leb (replicate 8 10) (zip2 less v (replicate 8 48)) ≡ map other v =
    ap (zip2 leb (replicate 8 10)) lanes ∙ zip2_splat_left leb 10 8 (map less_zero v) wide ∙ map-map _ _ v in
    ap (λ ms. mask_l ms % 2 ^ 64) (tops_compared w8 leb (replicate 8 10) (zip2 less v (replicate 8 48)) ∙ masks)
    ∙ mask_l-mod (map other v) 64 (omega (arith, length-map v other, eight))

all_front : (bytes : List ℕ) (r : ℕ) → r ≤ length bytes → ((k : ℕ) → k < r → digit_value (get_or bytes k 0) < 10) → AllDigits 10 (take r bytes)
all_front bytes zero le all = tt
all_front [] (suc r) le all = absurd (omega (arith, le))
all_front (byte ∷ bytes) (suc r) le all =
    (all 0 (omega arith), all_front bytes r (omega (arith, le)) (λ k below. all (suc k) (omega (arith, below))))

-- digits at the front are of the first word
pub digits_within : (bytes : List ℕ) (n : ℕ) → n ≤ length bytes → AllDigits 10 (take n bytes) → n ≤ position_or_len is_space bytes
digits_within bytes zero le all = omega arith
digits_within [] (suc n) le all = absurd (omega (arith, le))
digits_within (byte ∷ bytes) (suc n) le all =
    let rest = digits_within bytes n (omega (arith, le)) all.1 in
    rw (digit_no_space byte all.0) (omega (arith, rest))

-- so many are digits at the front
module _ (bytes : List ℕ) (r : ℕ) (long : 8 ≤ length bytes) (fits : (k : ℕ) → get_or bytes k 0 < 256) (counted : r ≡ prefix_len (λ byte. not (other byte)) (take 8 bytes)) where
  pub few : r ≤ 8
  few = run_in_chunk_le other bytes 0 8 r 0 long counted

  pub front_digits : AllDigits 10 (take r bytes)
  front_digits =
      all_front bytes r (omega (arith, few, long))
      (λ k below. lane_digit (get_or bytes k 0) (fits k) (run_in_chunk_fails other bytes 0 8 r 0 long counted k (omega arith) (omega (arith, below))))

  pub front_stops : r < 8 → digit_value (get_or bytes r 0) < 10 → ⊥
  front_stops below digit =
      let here : r ≡ 0 + r = omega arith in
      lane_other (get_or bytes r 0) (ap (λ k. other (get_or bytes k 0)) here ∙ run_in_chunk_stops other bytes 0 8 r 0 long counted below) digit

-- ---- the number that eight digits write

-- eight lanes as one number
pub word_is : (ls : List ℕ) → length ls ≡ 8 → from_le_bytes w64 ls ≡ number_l 256 ls
word_is [] h = absurd (omega (arith, h))
word_is (a ∷ []) h = absurd (omega (arith, h))
word_is (a ∷ b ∷ []) h = absurd (omega (arith, h))
word_is (a ∷ b ∷ c ∷ []) h = absurd (omega (arith, h))
word_is (a ∷ b ∷ c ∷ d ∷ []) h = absurd (omega (arith, h))
word_is (a ∷ b ∷ c ∷ d ∷ e ∷ []) h = absurd (omega (arith, h))
word_is (a ∷ b ∷ c ∷ d ∷ e ∷ f ∷ []) h = absurd (omega (arith, h))
word_is (a ∷ b ∷ c ∷ d ∷ e ∷ f ∷ g ∷ []) h = absurd (omega (arith, h))
word_is (a ∷ b ∷ c ∷ d ∷ e ∷ f ∷ g ∷ i ∷ []) h = omega arith
word_is (a ∷ b ∷ c ∷ d ∷ e ∷ f ∷ g ∷ i ∷ j ∷ ls) h = absurd (omega (arith, h))

-- the lanes that are loaded
pub lanes_are : (bytes : List ℕ) → 8 ≤ length bytes → from_le_bytes w64 (zip2 less (take 8 bytes) (replicate 8 48)) ≡ number_l 256 (lanes_of bytes)
lanes_are bytes long =
    let v = take 8 bytes in
    let eight : length v ≡ 8 = length-take-le 8 bytes long in
    ap (from_le_bytes w64) (zip2_splat less v 8 48 eight) ∙ word_is (map less_zero v) (omega (arith, length-map v less_zero, eight))

-- the mask keeps bytes 0 and 4
masked : (x : ℕ) → bit_and x 0x0000_00ff_0000_00ff ≡ x / 2 ^ 32 % 256 * 2 ^ 32 + x % 2 ^ 32 % 256
masked x =
    let e : x ≡ x / 2 ^ 32 * 2 ^ 32 + x % 2 ^ 32 = omega arith in
    ap (λ y. bit_and y 0x0000_00ff_0000_00ff) e ∙ and_block 32 (x / 2 ^ 32) 255 (x % 2 ^ 32) 255 (omega arith) (omega arith)
    ∙ (λ i. and_mask (x / 2 ^ 32) 8 i * 2 ^ 32 + and_mask (x % 2 ^ 32) 8 i)

abbrev worth : ℕ → ℕ
worth word =
    let pairs = (word * 10 % 2 ^ 64 + word / 256) % 2 ^ 64 in
    (bit_and pairs 0x0000_00ff_0000_00ff * 4294967296000100 % 2 ^ 64 + bit_and (pairs / 65536) 0x0000_00ff_0000_00ff * 42949672960001 % 2 ^ 64) % 2 ^ 64 / 2 ^ 32

below : (x : ℕ) → x < 100 → x < 256
below x h = omega (arith, h)

first : (p r : ℕ) → p < 100 → r < 100 → (r * 2 ^ 32 + p) * 4294967296000100 % 2 ^ 64 ≡ (p * 1000000 + r * 100) * 2 ^ 32 + p * 100
first p r P R = omega (arith, P, R)

second : (q s : ℕ) → q < 100 → s < 100 → (s * 2 ^ 32 + q) * 42949672960001 % 2 ^ 64 ≡ (q * 10000 + s) * 2 ^ 32 + q
second q s Q S = omega (arith, Q, S)

last : (p q r s : ℕ) → p < 100 → q < 100 → r < 100 → s < 100
    → ((p * 1000000 + r * 100) * 2 ^ 32 + p * 100 + ((q * 10000 + s) * 2 ^ 32 + q)) % 2 ^ 64 / 2 ^ 32 ≡ p * 1000000 + q * 10000 + r * 100 + s
last p q r s P Q R S =
    let sum = (p * 1000000 + r * 100) * 2 ^ 32 + p * 100 + ((q * 10000 + s) * 2 ^ 32 + q) in
    let small : sum < 2 ^ 64 = omega (arith, P, Q, R, S) in
    let parts : sum ≡ (p * 1000000 + q * 10000 + r * 100 + s) * 2 ^ 32 + (p * 100 + q) = omega arith in
    let low : p * 100 + q < 2 ^ 32 = omega (arith, P, Q) in
    ap (λ x. x / 2 ^ 32) (mod-eq_of_lt small ∙ parts) ∙ digits_div _ low

-- p, q, r and s are the four pairs of digits, and x, y, z and w the bytes between them
combined : (p q r s x y z w pairs : ℕ) → p < 100 → q < 100 → r < 100 → s < 100 → x < 100 → y < 100 → z < 100 → w < 100
    → pairs ≡ p + 2 ^ 8 * x + 2 ^ 16 * q + 2 ^ 24 * y + 2 ^ 32 * r + 2 ^ 40 * z + 2 ^ 48 * s + 2 ^ 56 * w
    → (bit_and pairs 0x0000_00ff_0000_00ff * 4294967296000100 % 2 ^ 64 + bit_and (pairs / 65536) 0x0000_00ff_0000_00ff * 42949672960001 % 2 ^ 64) % 2 ^ 64 / 2 ^ 32
    ≡ p * 1000000 + q * 10000 + r * 100 + s
combined p q r s x y z w pairs P Q R S X Y Z W e =
    let high : pairs / 2 ^ 32 ≡ (z + 2 ^ 8 * s + 2 ^ 16 * w) * 256 + r = omega (arith, e, P, Q, R, S, X, Y, Z, W) in
    let low : pairs % 2 ^ 32 ≡ (x + 2 ^ 8 * q + 2 ^ 16 * y) * 256 + p = omega (arith, e, P, Q, R, S, X, Y, Z, W) in
    let down : pairs / 65536 ≡ (((w * 256) + s) * 2 ^ 32) + ((y + 2 ^ 8 * r + 2 ^ 16 * z) * 256 + q) = omega (arith, e, P, Q, R, S, X, Y, Z, W) in
    let a : pairs / 2 ^ 32 % 256 ≡ r = rw high (digits_mod _ (below r R)) in
    let b : pairs % 2 ^ 32 % 256 ≡ p = rw low (digits_mod _ (below p P)) in
    let part : (y + 2 ^ 8 * r + 2 ^ 16 * z) * 256 + q < 2 ^ 32 = omega (arith, P, Q, R, S, X, Y, Z, W) in
    let c : pairs / 65536 / 2 ^ 32 % 256 ≡ s = rw (down, digits_div _ part) (digits_mod _ (below s S)) in
    let d : pairs / 65536 % 2 ^ 32 % 256 ≡ q = rw (down, digits_mod _ part) (digits_mod _ (below q Q)) in
    rw (masked pairs, masked (pairs / 65536), a, b, c, d, first p r P R, second q s Q S) (last p q r s P Q R S)

-- the three multiplications give the number that eight digits write
pub eight_is : (ds : List ℕ) (word : ℕ) → AreEight ds → word ≡ number_l 256 ds → worth word ≡ number_from_digits 10 ds
eight_is [] word h e = absurd (omega (arith, h.0))
eight_is (a ∷ []) word h e = absurd (omega (arith, h.0))
eight_is (a ∷ b ∷ []) word h e = absurd (omega (arith, h.0))
eight_is (a ∷ b ∷ c ∷ []) word h e = absurd (omega (arith, h.0))
eight_is (a ∷ b ∷ c ∷ d ∷ []) word h e = absurd (omega (arith, h.0))
eight_is (a ∷ b ∷ c ∷ d ∷ f ∷ []) word h e = absurd (omega (arith, h.0))
eight_is (a ∷ b ∷ c ∷ d ∷ f ∷ g ∷ []) word h e = absurd (omega (arith, h.0))
eight_is (a ∷ b ∷ c ∷ d ∷ f ∷ g ∷ i ∷ []) word h e = absurd (omega (arith, h.0))
eight_is (a ∷ b ∷ c ∷ d ∷ f ∷ g ∷ i ∷ j ∷ k ∷ ds) word h e = absurd (omega (arith, h.0))
eight_is (a ∷ b ∷ c ∷ d ∷ f ∷ g ∷ i ∷ j ∷ []) word h e =
    let all : (a < 10) × (b < 10) × (c < 10) × (d < 10) × (f < 10) × (g < 10) × (i < 10) × (j < 10) =
    (h.1.0, h.1.1.0, h.1.1.1.0, h.1.1.1.1.0, h.1.1.1.1.1.0, h.1.1.1.1.1.1.0, h.1.1.1.1.1.1.1.0, h.1.1.1.1.1.1.1.1.0) in
    let rest = b + 256 * (c + 256 * (d + 256 * (f + 256 * (g + 256 * (i + 256 * (j + 256 * 0)))))) in
    let parts : word ≡ rest * 256 + a = omega (arith, e) in
    let small : a < 256 = omega (arith, all) in
    let shifted : word / 256 ≡ rest = ap (λ x. x / 256) parts ∙ digits_div rest small in
    let tens : word * 10 < 2 ^ 64 = omega (arith, parts, all) in
    let sum : word * 10 + rest < 2 ^ 64 = omega (arith, parts, all) in
    let pairs : (word * 10 % 2 ^ 64 + word / 256) % 2 ^ 64
    ≡ 10 * a + b + 2 ^ 8 * (10 * b + c) + 2 ^ 16 * (10 * c + d) + 2 ^ 24 * (10 * d + f) + 2 ^ 32 * (10 * f + g) + 2 ^ 40 * (10 * g + i) + 2 ^ 48 * (10 * i + j) + 2 ^ 56 * (10 * j) =
    rw (mod-eq_of_lt tens, shifted, mod-eq_of_lt sum) (omega (arith, parts)) in
    combined _ _ _ _ _ _ _ _ _ (omega (arith, all)) (omega (arith, all)) (omega (arith, all)) (omega (arith, all)) (omega (arith, all)) (omega (arith, all)) (omega (arith, all)) (omega (arith, all)) pairs ∙ omega arith

-- ---- the digits at the front, moved to the end

padded : (k : ℕ) (ds : List ℕ) → AllBelowBase 10 ds
    → AllBelowBase 10 (replicate k 0 ++ ds) × (number_l 256 (replicate k 0 ++ ds) ≡ number_l 256 ds * 256 ^ k) × (number_from_digits 10 (replicate k 0 ++ ds) ≡ number_from_digits 10 ds)
padded zero ds h = (h, omega arith, refl)
padded (suc k) ds h = let r = padded k ds h in ((omega arith, r.0), omega (arith, r.1, ap (λ x. number_l 256 ds * x) (pow-suc 256 k)), r.2)

power_pos : (k : ℕ) → 0 < 256 ^ k
power_pos zero = omega arith
power_pos (suc k) = omega (arith, power_pos k, pow-suc 256 k)

front : (ls : List ℕ) (n : ℕ) → AllBelowBase 256 ls → number_l 256 ls % 256 ^ n ≡ number_l 256 (take n ls)
front ls zero h = omega arith
front [] (suc n) h = zero-mod _
front (x ∷ ls) (suc n) h =
    let e : x + 256 * number_l 256 ls ≡ number_l 256 ls * 256 + x = omega arith in
    let byte : 0 < 256 = omega arith in
    rw (pow-suc, e, mod-mul _ (power_pos n) byte, digits_div _ h.0, digits_mod _ h.0, front ls n h.1) (omega arith)

mod_scaled : (a m c : ℕ) → 0 < m → 0 < c → a * c % (m * c) ≡ a % m * c
mod_scaled a m c M C = rw (mod-mul _ M C, mul-div_cancel a C, mul-mod_left, add-zero)

lanes_fit : (xs : List ℕ) → AllBelowBase 256 (map less_zero xs)
lanes_fit [] = tt
lanes_fit (x ∷ xs) = (omega arith, lanes_fit xs)

lane_value : (x : ℕ) → digit_value x < 10 → less_zero x ≡ digit_value x
lane_value x digit =
    let range = digit_from_value x digit in
    omega (arith, digit_value_digit x range, range.0, range.1)

-- the lanes of digits are what the digits write
values : (xs : List ℕ) (n : ℕ) → AllDigits 10 (take n xs) → AllBelowBase 10 (take n (map less_zero xs)) × (take n (map less_zero xs) ≡ map digit_value (take n xs))
values xs zero all = (tt, refl)
values [] (suc n) all = (tt, refl)
values (x ∷ xs) (suc n) all =
    let r = values xs n all.1 in
    let v = lane_value x all.0 in
    ((omega (arith, v, all.0), r.0), λ i. v i ∷ r.1 i)

same_shift : (n : ℕ) → n < 8 → 2 ^ (64 - 8 * n) ≡ 256 ^ (8 - n)
same_shift zero few = refl
same_shift (suc zero) few = refl
same_shift (suc (suc zero)) few = refl
same_shift (suc (suc (suc zero))) few = refl
same_shift (suc (suc (suc (suc zero)))) few = refl
same_shift (suc (suc (suc (suc (suc zero))))) few = refl
same_shift (suc (suc (suc (suc (suc (suc zero)))))) few = refl
same_shift (suc (suc (suc (suc (suc (suc (suc zero))))))) few = refl
same_shift (suc (suc (suc (suc (suc (suc (suc (suc n)))))))) few = absurd (omega (arith, few))

-- moved up until the first n lanes are the last, the number has zeros and then the n digits
pub shifted_is : (bytes : List ℕ) (n : ℕ) → 8 ≤ length bytes → n < 8 → AllDigits 10 (take n bytes)
    → (ds : List ℕ) × AreEight ds × (number_l 256 (lanes_of bytes) * 2 ^ (64 - 8 * n) % 2 ^ 64 ≡ number_l 256 ds) × (number_from_digits 10 ds ≡ digits_value 10 (take n bytes))
shifted_is bytes n long few all =
    let ls : List ℕ = lanes_of bytes in
    let eight : length (take 8 bytes) ≡ 8 = length-take-le 8 bytes long in
    let wide : length ls ≡ 8 = omega (arith, length-map (take 8 bytes) less_zero, eight) in
    let inside : take n (take 8 bytes) ≡ take n bytes = take-take n 8 bytes (omega (arith, few)) in
    let v = values (take 8 bytes) n (rw inside all) in
    let p = padded (8 - n) (take n ls) v.0 in
    let power : 256 ^ n * 256 ^ (8 - n) ≡ 2 ^ 64 = sym (pow-add 256 n (8 - n)) ∙ ap (λ k. 256 ^ k) {y = 8} (omega (arith, few)) in (
      replicate (8 - n) 0 ++ take n ls,
      (omega (arith, few, length-append (replicate (8 - n) 0) (take n ls), length-replicate {A = ℕ} (8 - n) 0, length-take n ls, wide), p.0),
      ap (λ k. number_l 256 ls * k % 2 ^ 64) (same_shift n few) ∙ rw (← power, mod_scaled _ _ _ (power_pos n) (power_pos (8 - n)), front ls n (lanes_fit (take 8 bytes))) (sym p.1),
      p.2 ∙ ap (number_from_digits 10) (v.1 ∙ ap (map digit_value) inside) ∙ sym (digits_value_is 10 (take n bytes)),
    )
