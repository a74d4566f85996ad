-- What a list contains: with one more in front, after a map, with one more inside, and behind a filter.
use Rattle.std.proofs.Common.{◌≡◌, ◌⊎◌, inl, inr, ℕ, zero, suc, ◌<◌, Bool, true, List, [], ◌∷◌, ◌++◌, length, filter, get_or, map, take, drop, Contains, IsTrue, refl, sym, ap, subst, ◌∙◌, arith}
use Rattle.std.specs.List.{insert, All, AllPairs}
use Rattle.std.proofs.lemmas.Bool.{both_ways, cases_Bool}
use Rattle.std.proofs.lemmas.List.{take-append-drop}
use Rattle.std.proofs.lemmas.List.Elements.{All-append, All-cons, All-contains, All-contains_itself, All-drop, All-filter, All-take, Contains-append_cases, Contains-append_left, Contains-append_right, filter_passes}
use Rattle.warp_tag.proofs.Lists.{filter-here, filter-past}

pub Contains-here : {X : Type 0} (x : X) (xs : List X) → Contains (x ∷ xs) x
Contains-here x xs = (0, omega arith, refl)

pub Contains-there : {X : Type 0} (x : X) (xs : List X) (y : X) → Contains xs y → Contains (x ∷ xs) y
Contains-there x xs y h = (suc h.0, omega (arith, h.1), h.2)

-- what is in a list is at its head or behind
pub Contains-cases : {X : Type 0} (x : X) (xs : List X) (y : X) → Contains (x ∷ xs) y → (x ≡ y) ⊎ Contains xs y
Contains-cases {X} x xs y h = at h.0 h.1 h.2
  where
    at : (k : ℕ) → k < length (x ∷ xs) → get_or (x ∷ xs) k y ≡ y → (x ≡ y) ⊎ Contains xs y
    at zero l e = inl e
    at (suc k) l e = inr (k, omega arith, e)

pub Contains-nil : {X : Type 0} (y : X) → Contains [] y → ⊥
Contains-nil y h = absurd (omega (arith, h.1))

pub Contains-map : {X Y : Type 0} (f : X → Y) (xs : List X) (x : X) → Contains xs x → Contains (map f xs) (f x)
Contains-map f [] x h = absurd (Contains-nil x h)
Contains-map {X} {Y} f (z ∷ xs) x h = elim (Contains-cases z xs x h) [
  | inl e ↦ subst (λ (y : X). Contains (f z ∷ map f xs) (f y)) e (Contains-here (f z) (map f xs))
  | inr t ↦ Contains-there (f z) (map f xs) (f x) (Contains-map f xs x t)
]

pub Contains-from_map : {X Y : Type 0} (f : X → Y) (xs : List X) (y : Y) → Contains (map f xs) y → (x : X) × Contains xs x × (f x ≡ y)
Contains-from_map f [] y h = absurd (Contains-nil y h)
Contains-from_map f (z ∷ xs) y h = elim (Contains-cases (f z) (map f xs) y h) [
  | inl e ↦ (z, Contains-here z xs, e)
  | inr t ↦ (let r = Contains-from_map f xs y t in (r.0, Contains-there z xs r.0 r.1, r.2))
]

-- the two parts of a list have what it has
pub Contains-parts : {X : Type 0} (n : ℕ) (xs : List X) (x : X) → Contains xs x → Contains (take n xs) x ⊎ Contains (drop n xs) x
Contains-parts {X} n xs x h = Contains-append_cases (take n xs) (drop n xs) x (subst (λ (ys : List X). Contains ys x) (sym (take-append-drop n xs)) h)

pub Contains-whole : {X : Type 0} (n : ℕ) (xs : List X) (x : X) → Contains (take n xs) x ⊎ Contains (drop n xs) x → Contains xs x
Contains-whole {X} n xs x h = subst (λ (ys : List X). Contains ys x) (take-append-drop n xs) (elim h as (λ _. Contains (take n xs ++ drop n xs) x) [
  | inl a ↦ Contains-append_left (take n xs) (drop n xs) x a
  | inr b ↦ Contains-append_right (take n xs) (drop n xs) x b
])

-- with one more inside
pub Contains-insert : {X : Type 0} (xs : List X) (n : ℕ) (y x : X) → Contains xs x ⊎ (y ≡ x) → Contains (insert xs n y) x
Contains-insert {X} xs n y x (inl h) = elim (Contains-parts n xs x h) [
  | inl a ↦ Contains-append_left (take n xs) (y ∷ drop n xs) x a
  | inr b ↦ Contains-append_right (take n xs) (y ∷ drop n xs) x (Contains-there y (drop n xs) x b)
]
Contains-insert {X} xs n y x (inr e) =
    subst (λ (z : X). Contains (insert xs n y) z) e (Contains-append_right (take n xs) (y ∷ drop n xs) y (Contains-here y (drop n xs)))

pub Contains-from_insert : {X : Type 0} (xs : List X) (n : ℕ) (y x : X) → Contains (insert xs n y) x → Contains xs x ⊎ (y ≡ x)
Contains-from_insert xs n y x h = elim (Contains-append_cases (take n xs) (y ∷ drop n xs) x h) [
  | inl a ↦ inl (Contains-whole n xs x (inl a))
  | inr b ↦ elim (Contains-cases y (drop n xs) x b) [
    | inl e ↦ inr e
    | inr c ↦ inl (Contains-whole n xs x (inr c))
  ]
]

pub All-insert : {X : Type 0} (P : X → Type 0) (xs : List X) (n : ℕ) (y : X) → P y → All P xs → All P (insert xs n y)
All-insert P xs n y here all = All-append P (take n xs) (y ∷ drop n xs) (All-take P n xs all) (All-cons P y (drop n xs) here (All-drop P n xs all))

-- a relation of each two: what it says of the first, and of the rest
pub AllPairs-first : {X : Type 0} (R : X → X → Type 0) (x : X) (xs : List X) → AllPairs R (x ∷ xs) → All (R x) xs
AllPairs-first R x xs h = λ j d l. h 0 (suc j) d (omega arith) (omega arith)

pub AllPairs-tail : {X : Type 0} (R : X → X → Type 0) (x : X) (xs : List X) → AllPairs R (x ∷ xs) → AllPairs R xs
AllPairs-tail R x xs h = λ i j d lt l. h (suc i) (suc j) d (omega arith) (omega arith)

pub AllPairs-one : {X : Type 0} (R : X → X → Type 0) (x : X) → AllPairs R (x ∷ [])
AllPairs-one R x = λ i j d lt l. absurd (omega arith)

-- what is in a list and passes a test is kept by its filter, and nothing else
pub passes_kept : {X : Type 0} (p : X → Bool) (xs : List X) (y : X) → Contains xs y → IsTrue (p y) → Contains (filter p xs) y
passes_kept p [] y has pass = absurd (Contains-nil y has)
passes_kept {X} p (x ∷ xs) y has pass = elim (cases_Bool (p x)) [
  | inl here ↦ rw (filter-here p x xs here) (elim (Contains-cases x xs y has) [
    | inl e ↦ subst (λ (z : X). Contains (x ∷ filter p xs) z) e (Contains-here x (filter p xs))
    | inr there ↦ Contains-there x (filter p xs) y (passes_kept p xs y there pass)
  ])
  | inr past ↦ rw (filter-past p x xs past) (elim (Contains-cases x xs y has) [
    | inl e ↦ absurd (both_ways (p x) past (ap p e ∙ pass))
    | inr there ↦ passes_kept p xs y there pass
  ])
]

pub kept_passes : {X : Type 0} (p : X → Bool) (xs : List X) (y : X) → Contains (filter p xs) y → Contains xs y × IsTrue (p y)
kept_passes p xs y has = (
  All-contains (Contains xs) (filter p xs) y (All-filter p (Contains xs) xs (All-contains_itself xs)) has,
  All-contains (λ x. p x ≡ true) (filter p xs) y (filter_passes p xs) has,
)
