-- Tests of all and of some, and numbers in range.
use Rattle.std.proofs.Common.{◌≡◌, ℕ, ℤ, pos, negsuc, Bool, true, false, not, ◌&&◌, List, [], ◌∷◌, ◌++◌, sym, ◌∙◌, refl, unsigned_abs, nat_le, nat_lt}
use Rattle.std.specs.List.{list_any, list_all}
use Rattle.std.proofs.lemmas.Bool.{true≢false, and_from, and_parts, or_parts, not-false, le-leb, ltb-false, lt-ltb, leb-false}
use Rattle.std.proofs.lemmas.List.Folds.{list_all-append}
use Rattle.warp_prog.specs.Limits.{is_outside, origin_exceeds}

-- where none fails, all pass
pub all-pass : {X : Type 0} (p : X → Bool) (xs : List X) → list_any (λ x. not (p x)) xs ≡ false → list_all p xs ≡ true
all-pass p [] h = refl
all-pass p (x ∷ xs) h =
    let parts = or_parts (not (p x)) (list_any (λ x. not (p x)) xs) h in
    and_from (p x) (list_all p xs) (not-false (p x) parts.0) (all-pass p xs parts.1)

-- where some test finds none, another passes on all
pub all-since : {X : Type 0} (bad good : X → Bool) → ((x : X) → bad x ≡ false → good x ≡ true) → (xs : List X) → list_any bad xs ≡ false → list_all good xs ≡ true
all-since bad good f [] h = refl
all-since bad good f (x ∷ xs) h =
    let parts = or_parts (bad x) (list_any bad xs) h in
    and_from (good x) (list_all good xs) (f x parts.0) (all-since bad good f xs parts.1)

-- two tests of all
pub all-both : {X : Type 0} (p q : X → Bool) (xs : List X) → list_all p xs ≡ true → list_all q xs ≡ true → list_all (λ x. p x && q x) xs ≡ true
all-both p q [] h k = refl
all-both p q (x ∷ xs) h k =
    let hs = and_parts (p x) (list_all p xs) h in
    let ks = and_parts (q x) (list_all q xs) k in
    and_from (p x && q x) (list_all (λ x. p x && q x) xs) (and_from (p x) (q x) hs.0 ks.0) (all-both p q xs hs.1 ks.1)

-- of two lists, one after the other
pub all-parts : {X : Type 0} (p : X → Bool) (xs ys : List X) → list_all p (xs ++ ys) ≡ true → (list_all p xs ≡ true) × (list_all p ys ≡ true)
all-parts p xs ys h = and_parts (list_all p xs) (list_all p ys) (sym (list_all-append p xs ys) ∙ h)

pub all-joined : {X : Type 0} (p : X → Bool) (xs ys : List X) → list_all p xs ≡ true → list_all p ys ≡ true → list_all p (xs ++ ys) ≡ true
all-joined p xs ys h k = list_all-append p xs ys ∙ and_from (list_all p xs) (list_all p ys) h k

-- a number that is not outside
pub in-range : (low high : ℕ) (n : ℤ) → is_outside (pos low) (pos high) n ≡ false → (nat_le low (unsigned_abs n) ≡ true) × (nat_le (unsigned_abs n) high ≡ true)
in-range low high (pos n) h =
    let parts = or_parts (nat_lt n low) (nat_lt high n) h in
    (le-leb low n (ltb-false n low parts.0), le-leb n high (ltb-false high n parts.1))
in-range low high (negsuc n) h = absurd (true≢false h)

-- an origin
pub is-origin : (origins n : ℤ) → origin_exceeds origins n ≡ false → nat_lt (unsigned_abs n) (unsigned_abs origins) ≡ true
is-origin (pos m) (pos n) h = lt-ltb n m (leb-false m n (or_parts (nat_lt n 0) (nat_le m n) h).1)
is-origin (negsuc m) (pos n) h = absurd (true≢false (or_parts (nat_lt n 0) true h).1)
is-origin m (negsuc n) h = absurd (true≢false h)
