-- The element of a number: in a list after others, in a list of pictures, and where a name is found.
use Rattle.std.proofs.Common.{◌≡◌, ℕ, zero, suc, ◌+◌, ◌<◌, ◌≤◌, nat_lt, Bool, true, false, not, ◌&&◌, ◌||◌, cond, List, [], ◌∷◌, ◌++◌, length, map, drop, ap, sym, subst, ◌∙◌, refl, inl, inr, one-add, zero-add, suc-add, append_assoc, map-id, bytes_eq, arith}
use Rattle.std.proofs.lemmas.Bool.{cases_Bool, true≢false, and_from, lt-ltb}
use Rattle.std.proofs.lemmas.Bool.Decides.{nat_tests}
use Rattle.std.proofs.lemmas.List.{length-map}
use Rattle.warp_step.specs.Valid.{has}
use Rattle.warp_prog.specs.File.{Word}
use Rattle.warp_prog.specs.Uses.{is_among}
use Rattle.warp_prog.specs.Numbered.{place_among}

-- after the front of a list
pub has-after : {X : Type 0} (xs ys : List X) (n : ℕ) (q : X → Bool) → has (xs ++ ys) (length xs + n) q ≡ has ys n q
has-after [] ys n q = ap (λ k. has ys k q) (zero-add n)
has-after (x ∷ xs) ys n q = ap (λ k. has (x ∷ (xs ++ ys)) k q) (suc-add (length xs) n) ∙ has-after xs ys n q

-- what is left after so many
pub has-drop : {X : Type 0} (xs : List X) (k n : ℕ) (q : X → Bool) → has xs (k + n) q ≡ has (drop k xs) n q
has-drop xs zero n q = ap (λ k. has xs k q) (zero-add n)
has-drop [] (suc k) n q = refl
has-drop (x ∷ xs) (suc k) n q = ap (λ m. has (x ∷ xs) m q) (suc-add k n) ∙ has-drop xs k n q

-- of pictures
pub has-map : {X Y : Type 0} (f : X → Y) (xs : List X) (n : ℕ) (q : Y → Bool) → has (map f xs) n q ≡ has xs n (λ x. q (f x))
has-map f [] n q = refl
has-map f (x ∷ xs) zero q = refl
has-map f (x ∷ xs) (suc n) q = has-map f xs n q

-- a test that asks less
pub has-less : {X : Type 0} (p q : X → Bool) → ((x : X) → p x ≡ true → q x ≡ true) → (xs : List X) (n : ℕ) → has xs n p ≡ true → has xs n q ≡ true
has-less p q f [] n h = h
has-less p q f (x ∷ xs) zero h = f x h
has-less p q f (x ∷ xs) (suc n) h = has-less p q f xs n h

-- two tests of one element
pub has-both : {X : Type 0} (p q : X → Bool) (xs : List X) (n : ℕ) → has xs n p ≡ true → has xs n q ≡ true → has xs n (λ x. p x && q x) ≡ true
has-both p q [] n h k = h
has-both p q (x ∷ xs) zero h k = and_from (p x) (q x) h k
has-both p q (x ∷ xs) (suc n) h k = has-both p q xs n h k

-- a test that depends on nothing
pub has-fact : {X : Type 0} (b : Bool) (xs : List X) (n : ℕ) → has xs n (λ x. b) ≡ true → b ≡ true
has-fact b [] n h = absurd (true≢false (sym h))
has-fact b (x ∷ xs) zero h = h
has-fact b (x ∷ xs) (suc n) h = has-fact b xs n h

-- it is there
pub has-within : {X : Type 0} (q : X → Bool) (xs : List X) (n : ℕ) → has xs n q ≡ true → n < length xs
has-within q [] n h = absurd (true≢false (sym h))
has-within q (x ∷ xs) zero h = omega arith
has-within q (x ∷ xs) (suc n) h = let rest = has-within q xs n h in omega arith

-- where a name is the first of the list, and where it is not
pub place-here : (name n : Word) (ns : List Word) → bytes_eq name n ≡ true → place_among (n ∷ ns) name ≡ 0
place-here name n ns h = ap (λ b. cond (not b) (1 + place_among ns name) 0) h

pub place-past : (name n : Word) (ns : List Word) → bytes_eq name n ≡ false → place_among (n ∷ ns) name ≡ suc (place_among ns name)
place-past name n ns h = ap (λ b. cond (not b) (1 + place_among ns name) 0) h ∙ one-add (place_among ns name)

-- a name is among others exactly if its place is within
pub place-within : (name : Word) (ns : List Word) → nat_lt (place_among ns name) (length ns) ≡ is_among ns name
place-within name [] = grind (arith, nat_tests)
place-within name (n ∷ ns) =
    let rest = place-within name ns in
    elim (cases_Bool (bytes_eq name n)) [
      | inl here ↦
          let first = place-here name n ns here in
          lt-ltb (place_among (n ∷ ns) name) (suc (length ns)) (omega (arith, first)) ∙ sym (ap (λ b. b || is_among ns name) here)
      | inr past ↦
          let next = place-past name n ns past in
          grind (arith, nat_tests, rest, next) ∙ sym (ap (λ b. b || is_among ns name) past)
    ]

pub place-found : (name : Word) (ns : List Word) → place_among ns name < length ns → is_among ns name ≡ true
place-found name ns h = sym (place-within name ns) ∙ lt-ltb (place_among ns name) (length ns) h

pub place-missed : (name : Word) (ns : List Word) → length ns ≤ place_among ns name → is_among ns name ≡ false
place-missed name ns h = sym (place-within name ns) ∙ grind (arith, nat_tests, h)

-- the thing that is found by its name
pub has-found : {X Y : Type 0} (called : X → Word) (f : X → Y) (q : Y → Bool) (name : Word) → ((x : X) → bytes_eq name (called x) ≡ true → q (f x) ≡ true) →
    (xs : List X) (ys : List Y) → is_among (map called xs) name ≡ true → has (map f xs ++ ys) (place_among (map called xs) name) q ≡ true
has-found called f q name good [] ys h = absurd (true≢false (sym h))
has-found called f q name good (x ∷ xs) ys h =
    elim (cases_Bool (bytes_eq name (called x))) [
      | inl here ↦ subst (λ n. has (f x ∷ (map f xs ++ ys)) n q ≡ true) (sym (place-here name (called x) (map called xs) here)) (good x here)
      | inr past ↦
          subst (λ n. has (f x ∷ (map f xs ++ ys)) n q ≡ true) (sym (place-past name (called x) (map called xs) past))
          (has-found called f q name good xs ys (sym (ap (λ b. b || is_among (map called xs) name) past) ∙ h))
    ]

-- the picture of a name that is found, in the first of two lists and in the second
module _ {Y : Type 0} (f g : Word → Y) (q : Y → Bool) (ins outs : List Word) (rest : List Y) (name : Word) where
  pub has-first : ((n : Word) → bytes_eq name n ≡ true → q (f n) ≡ true) → is_among ins name ≡ true →
      has ((map f ins ++ map g outs) ++ rest) (place_among ins name) q ≡ true
  has-first good h =
      subst (λ ps. has ps (place_among ins name) q ≡ true) (sym (append_assoc (map f ins) (map g outs) rest))
      (subst (λ ns. has (map f ins ++ (map g outs ++ rest)) (place_among ns name) q ≡ true) (map-id ins)
      (has-found (λ (n : Word). n) f q name good ins (map g outs ++ rest) (subst (λ ns. is_among ns name ≡ true) (sym (map-id ins)) h)))

  pub has-second : ((n : Word) → bytes_eq name n ≡ true → q (g n) ≡ true) → is_among outs name ≡ true →
      has ((map f ins ++ map g outs) ++ rest) (length ins + place_among outs name) q ≡ true
  has-second good h =
      subst (λ ps. has ps (length ins + place_among outs name) q ≡ true) (sym (append_assoc (map f ins) (map g outs) rest))
      (subst (λ k. has (map f ins ++ (map g outs ++ rest)) (k + place_among outs name) q ≡ true) (length-map ins f)
      (has-after (map f ins) (map g outs ++ rest) (place_among outs name) q
      ∙ subst (λ ns. has (map g outs ++ rest) (place_among ns name) q ≡ true) (map-id outs)
      (has-found (λ (n : Word). n) g q name good outs rest (subst (λ ns. is_among ns name ≡ true) (sym (map-id outs)) h))))

drop-nothing : {X : Type 0} (n : ℕ) → drop {A = X} n [] ≡ []
drop-nothing zero = refl
drop-nothing (suc n) = refl

drop-more : {X : Type 0} (k n : ℕ) (xs : List X) → drop (k + n) xs ≡ drop n (drop k xs)
drop-more zero n xs = ap (λ m. drop m xs) (zero-add n)
drop-more (suc k) n [] = drop-nothing (suc k + n) ∙ sym (drop-nothing n)
drop-more (suc k) n (x ∷ xs) = ap (λ m. drop m (x ∷ xs)) (suc-add k n) ∙ drop-more k n xs

pub drop-front : {X : Type 0} (xs ys : List X) → drop (length xs) (xs ++ ys) ≡ ys
drop-front [] ys = refl
drop-front (x ∷ xs) ys = drop-front xs ys

-- what is left after the front of what was left
pub drop-past : {X : Type 0} (all xs ys : List X) (k n : ℕ) → drop k all ≡ xs ++ ys → length xs ≡ n → drop (k + n) all ≡ ys
drop-past all xs ys k n h e = drop-more k n all ∙ ap (drop n) h ∙ ap (λ m. drop m (xs ++ ys)) (sym e) ∙ drop-front xs ys
