-- Lists in strict order: what is in them, and that two of the same members are one.
use Rattle.std.proofs.Common.{◌≡◌, ◌⊎◌, inl, inr, suc, Bool, true, List, [], ◌∷◌, Option, Some, None, Contains, IsTrue, refl, sym, subst, ◌∙◌, arith}
use Rattle.std.specs.Prelude.{◌↔◌, AllPairs}
use Rattle.std.specs.List.{AllByRecursion, cons_option}
use Rattle.std.proofs.lemmas.List.Elements.{All-from_recursion}
use Rattle.std.proofs.lemmas.List.Kept.{AllPairs-cons}
use Rattle.warp_table.proofs.Members.{AllPairs-tail, Contains-cases, Contains-here, Contains-there}

-- of a list in order the first element stands before each of the rest, and the rest is in order
pub AllPairs-head : {X : Type 0} (R : X → X → Type 0) (x : X) (xs : List X) → AllPairs R (x ∷ xs) → (y : X) → Contains xs y → R x y
AllPairs-head R x xs h y has = subst (R x) has.2 (h 0 (suc has.0) y (omega arith) (omega (arith, has.1)))

-- where no two elements come before one another, two lists in order that have the same members are one
module _ {X : Type 0} (before : X → X → Bool) (apart : (x y : X) → before x y ≡ true → before y x ≡ true → ⊥) where
  abbrev InOrder : List X → Type 0
  InOrder xs = AllPairs (λ x y. IsTrue (before x y)) xs

  first_same : (d e : X) (ds es : List X) → InOrder (d ∷ ds) → InOrder (e ∷ es) → Contains (e ∷ es) d → Contains (d ∷ ds) e → d ≡ e
  first_same d e ds es od oe hd he = elim (Contains-cases e es d hd) [
    | inl is ↦ sym is
    | inr later ↦ elim (Contains-cases d ds e he) [
      | inl is ↦ is
      | inr behind ↦ absurd (apart d e (AllPairs-head (λ x y. IsTrue (before x y)) d ds od e behind) (AllPairs-head (λ x y. IsTrue (before x y)) e es oe d later))
    ]
  ]

  -- what is behind the first element is no other's first
  rest_has : (d e : X) (ds es : List X) → d ≡ e → InOrder (d ∷ ds) → (y : X) → Contains ds y → Contains (e ∷ es) y → Contains es y
  rest_has d e ds es same od y behind has = elim (Contains-cases e es y has) [
    | inl is ↦
        let h : before d y ≡ true = AllPairs-head (λ x y. IsTrue (before x y)) d ds od y behind in
        let self : before d d ≡ true = subst (λ z. before d z ≡ true) (sym (same ∙ is)) h in
        absurd (apart d d self self)
    | inr there ↦ there
  ]

  pub one_order : (ds es : List X) → InOrder ds → InOrder es → ((x : X) → Contains ds x ↔ Contains es x) → ds ≡ es
  one_order [] [] od oe same = refl
  one_order [] (e ∷ es) od oe same = absurd (let has = (same e).1 (Contains-here e es) in omega (arith, has.1))
  one_order (d ∷ ds) [] od oe same = absurd (let has = (same d).0 (Contains-here d ds) in omega (arith, has.1))
  one_order (d ∷ ds) (e ∷ es) od oe same =
      let first : d ≡ e = first_same d e ds es od oe ((same d).0 (Contains-here d ds)) ((same e).1 (Contains-here e es)) in
      let rest : ds ≡ es = one_order ds es (AllPairs-tail (λ x y. IsTrue (before x y)) d ds od) (AllPairs-tail (λ x y. IsTrue (before x y)) e es oe) (λ x. (
        (λ has. rest_has d e ds es first od x has ((same x).0 (Contains-there d ds x has))),
        (λ has. rest_has e d es ds (sym first) oe x has ((same x).1 (Contains-there e es x has))),
      )) in
      λ i. first i ∷ rest i

-- lists at whose head an element may stand
pub Contains-cons_option : {X : Type 0} (o : Option X) (xs : List X) (y : X) → Contains (cons_option o xs) y → (o ≡ Some y) ⊎ Contains xs y
Contains-cons_option None xs y has = inr has
Contains-cons_option (Some x) xs y has = elim (Contains-cases x xs y has) [ inl is ↦ inl (λ i. Some (is i)) | inr there ↦ inr there ]

pub cons_option-here : {X : Type 0} (o : Option X) (xs : List X) (y : X) → o ≡ Some y → Contains (cons_option o xs) y
cons_option-here o xs y is = subst (λ p. Contains (cons_option p xs) y) (sym is) (Contains-here y xs)

pub cons_option-there : {X : Type 0} (o : Option X) (xs : List X) (y : X) → Contains xs y → Contains (cons_option o xs) y
cons_option-there None xs y has = has
cons_option-there (Some x) xs y has = Contains-there x xs y has

pub All-cons_option : {X : Type 0} (P : X → Type 0) (o : Option X) (xs : List X) → ((x : X) → o ≡ Some x → P x) → AllByRecursion P xs → AllByRecursion P (cons_option o xs)
All-cons_option P None xs h all = all
All-cons_option P (Some x) xs h all = (h x refl, all)

pub AllPairs-cons_option : {X : Type 0} (R : X → X → Type 0) (o : Option X) (xs : List X) → ((x : X) → o ≡ Some x → AllByRecursion (R x) xs) → AllPairs R xs → AllPairs R (cons_option o xs)
AllPairs-cons_option R None xs h pairs = pairs
AllPairs-cons_option R (Some x) xs h pairs = AllPairs-cons R x xs (All-from_recursion (R x) xs (h x refl)) pairs
