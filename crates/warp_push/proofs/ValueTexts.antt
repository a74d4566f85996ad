-- Values as words of a text, each behind a space, and lists of values that differ.
use Rattle.std.proofs.Common.{◌≡◌, ◌≢◌, ◌⊎◌, inl, inr, ℕ, ℤ, pos, negsuc, int_eq, zero, suc, ◌^◌, ◌<◌, ◌≤◌, List, [], ◌∷◌, ◌++◌, length, get_or, drop, map, decimal, FitsSigned, w64, refl, sym, ap, ◌∙◌, arith}
use Rattle.std.specs.Fmt.{signed_decimal}
use Rattle.std.specs.List.{join_with_byte}
use Rattle.std.proofs.lemmas.Bool.{cases_Bool, false≢true}
use Rattle.std.proofs.lemmas.Bool.Decides.{Decides-int_eq}
use Rattle.std.proofs.lemmas.Fmt.{decimal_injective, decimal_is_IsNumeral, decimal_nonempty}
use Rattle.std.proofs.lemmas.List.{append_assoc}
use Rattle.std.proofs.lemmas.Str.Parse.{digit_at}
use Rattle.warp_push.proofs.StretchLemmas.{Plain, whole}

-- the digits of a number are plain
pub plain_decimal : (n : ℕ) → n < 2 ^ 64 → Plain (decimal n)
plain_decimal n fits k below =
    let range = digit_at (decimal n) k (decimal_is_IsNumeral n fits).0.1 below in
    omega (arith, range.0)

pub plain_value : (value : ℤ) → FitsSigned w64 value → Plain (signed_decimal value)
plain_value (pos n) fits k below = plain_decimal n (omega (arith, fits.sfits)) k below
plain_value (negsuc n) fits zero below = omega arith
plain_value (negsuc n) fits (suc k) below = plain_decimal (suc n) (omega (arith, fits.sfits)) k (omega (arith, below))

first_byte : (a b : List ℕ) → a ≡ b → get_or a 0 0 ≡ get_or b 0 0
first_byte a b same = ap (λ (text : List ℕ). get_or text 0 0) same

no_minus : (m n : ℕ) → m < 2 ^ 64 → decimal m ≡ 45 ∷ decimal n → ⊥
no_minus m n fits same =
    let range = digit_at (decimal m) 0 (decimal_is_IsNumeral m fits).0.1 (decimal_nonempty m fits) in
    omega (arith, range.0, first_byte (decimal m) (45 ∷ decimal n) same)

-- two values have two words
pub same_value : (y z : ℤ) → FitsSigned w64 y → FitsSigned w64 z → signed_decimal y ≡ signed_decimal z → y ≡ z
same_value (pos m) (pos n) fits_m fits_n same =
    ap pos (decimal_injective m n (omega (arith, fits_m.sfits)) (omega (arith, fits_n.sfits)) same)
same_value (pos m) (negsuc n) fits_m fits_n same = absurd (no_minus m (suc n) (omega (arith, fits_m.sfits)) same)
same_value (negsuc m) (pos n) fits_m fits_n same = absurd (no_minus n (suc m) (omega (arith, fits_n.sfits)) (sym same))
same_value (negsuc m) (negsuc n) fits_m fits_n same =
    let is : suc m ≡ suc n = decimal_injective (suc m) (suc n) (omega (arith, fits_m.sfits)) (omega (arith, fits_n.sfits))
    (ap (λ (text : List ℕ). drop 1 text) same) in
    ap (λ (k : ℕ). negsuc k) (omega (arith, is))

-- the words of values
abbrev pub words : List ℤ → List (List ℕ)
words values = map signed_decimal values

-- each behind a space
abbrev pub spaced : List ℤ → List ℕ
spaced [] = []
spaced (value ∷ values) = 32 ∷ (signed_decimal value ++ spaced values)

-- and a line feed behind all
abbrev pub ended : List ℤ → List ℕ
ended values = spaced values ++ 10 ∷ []

pub spaced_more : (xs ys : List ℤ) → spaced (xs ++ ys) ≡ spaced xs ++ spaced ys
spaced_more [] ys = refl
spaced_more (x ∷ xs) ys =
    ap (λ (text : List ℕ). 32 ∷ (signed_decimal x ++ text)) (spaced_more xs ys)
    ∙ ap (λ (text : List ℕ). 32 ∷ text) (sym (append_assoc (signed_decimal x) (spaced xs) (spaced ys)))

pub ended_more : (xs ys : List ℤ) → ended (xs ++ ys) ≡ spaced xs ++ ended ys
ended_more xs ys =
    ap (λ (text : List ℕ). text ++ 10 ∷ []) (spaced_more xs ys) ∙ append_assoc (spaced xs) (spaced ys) (10 ∷ [])

pub ended_cons : (y : ℤ) (ys : List ℤ) → ended (y ∷ ys) ≡ 32 ∷ (signed_decimal y ++ ended ys)
ended_cons y ys = ap (λ (text : List ℕ). 32 ∷ text) (append_assoc (signed_decimal y) (spaced ys) (10 ∷ []))

-- a value in the midst of others
pub ended_at : (xs ys : List ℤ) (y : ℤ) → ended (xs ++ y ∷ ys) ≡ whole (spaced xs) (signed_decimal y) (ended ys)
ended_at xs ys y = ended_more xs (y ∷ ys) ∙ ap (λ (text : List ℕ). spaced xs ++ text) (ended_cons y ys)

-- what stands behind a value begins with no byte of a word
pub low_first : (ys : List ℤ) → get_or (ended ys) 0 0 ≤ 32
low_first [] = omega arith
low_first (y ∷ ys) = omega arith

pub some_end : (ys : List ℤ) → 0 < length (ended ys)
some_end [] = omega arith
some_end (y ∷ ys) = omega arith

-- a line of words
pub line_from : (word : List ℕ) (values : List ℤ) → join_with_byte 32 (word ∷ words values) ++ 10 ∷ [] ≡ word ++ ended values
line_from word [] = refl
line_from word (y ∷ ys) =
    append_assoc word (32 ∷ join_with_byte 32 (words (y ∷ ys))) (10 ∷ [])
    ∙ ap (λ (text : List ℕ). word ++ 32 ∷ text) (line_from (signed_decimal y) ys)
    ∙ ap (λ (text : List ℕ). word ++ text) (sym (ended_cons y ys))

-- two lists of values with one length, parted at the first in which they differ
pub record First (a b : List ℤ) : Type 0 where
  pub before : List ℤ
  pub old : ℤ
  pub new : ℤ
  pub behind_old : List ℤ
  pub behind_new : List ℤ
  pub left : a ≡ before ++ old ∷ behind_old
  pub right : b ≡ before ++ new ∷ behind_new
  pub other : old ≢ new

pub first_of : (a b : List ℤ) → length a ≡ length b → (a ≡ b) ⊎ First a b
first_of [] [] long = inl refl
first_of [] (y ∷ b) long = absurd (omega (arith, long))
first_of (x ∷ a) [] long = absurd (omega (arith, long))
first_of (x ∷ a) (y ∷ b) long =
    elim (cases_Bool (int_eq x y)) [
      | inl is_same ↦
          let same : x ≡ y = (Decides-int_eq x y).0 is_same in
          elim (first_of a b (omega (arith, long))) [
            | inl are ↦ inl (ap (λ (z : ℤ). z ∷ a) same ∙ ap (λ (zs : List ℤ). y ∷ zs) are)
            | inr f ↦ inr (record {
              before = x ∷ f.before;
              old = f.old;
              new = f.new;
              behind_old = f.behind_old;
              behind_new = f.behind_new;
              left = ap (λ (zs : List ℤ). x ∷ zs) f.left;
              right = ap (λ (z : ℤ). z ∷ b) (sym same) ∙ ap (λ (zs : List ℤ). x ∷ zs) f.right;
              other = f.other;
            })
          ]
      | inr is_other ↦ inr (record {
        before = [];
        old = x;
        new = y;
        behind_old = a;
        behind_new = b;
        left = refl;
        right = refl;
        other = λ is. false≢true (sym is_other ∙ (Decides-int_eq x y).1 is);
      })
    ]

-- the same at the last
pub record Last (a b : List ℤ) : Type 0 where
  pub before_old : List ℤ
  pub before_new : List ℤ
  pub long : length before_old ≡ length before_new
  pub old : ℤ
  pub new : ℤ
  pub behind : List ℤ
  pub left : a ≡ before_old ++ old ∷ behind
  pub right : b ≡ before_new ++ new ∷ behind
  pub other : old ≢ new

pub last_of : (a b : List ℤ) → length a ≡ length b → (a ≡ b) ⊎ Last a b
last_of [] [] long = inl refl
last_of [] (y ∷ b) long = absurd (omega (arith, long))
last_of (x ∷ a) [] long = absurd (omega (arith, long))
last_of (x ∷ a) (y ∷ b) long =
    elim (last_of a b (omega (arith, long))) [
      | inr l ↦ inr (record {
        before_old = x ∷ l.before_old;
        before_new = y ∷ l.before_new;
        long = ap (λ (n : ℕ). suc n) l.long;
        old = l.old;
        new = l.new;
        behind = l.behind;
        left = ap (λ (zs : List ℤ). x ∷ zs) l.left;
        right = ap (λ (zs : List ℤ). y ∷ zs) l.right;
        other = l.other;
      })
      | inl are ↦
          elim (cases_Bool (int_eq x y)) [
            | inl is_same ↦ inl (ap (λ (z : ℤ). z ∷ a) ((Decides-int_eq x y).0 is_same) ∙ ap (λ (zs : List ℤ). y ∷ zs) are)
            | inr is_other ↦ inr (record {
              before_old = [];
              before_new = [];
              long = refl;
              old = x;
              new = y;
              behind = a;
              left = refl;
              right = ap (λ (zs : List ℤ). y ∷ zs) (sym are);
              other = λ is. false≢true (sym is_other ∙ (Decides-int_eq x y).1 is);
            })
          ]
    ]
