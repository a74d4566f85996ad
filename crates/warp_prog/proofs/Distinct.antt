-- Lists in which no value stands twice.
use Rattle.std.proofs.Common.{◌≡◌, ℕ, ◌+◌, ◌≤◌, Bool, true, false, not, ◌==◌, List, [], ◌∷◌, ◌++◌, map, ap, sym, subst, ◌∙◌, refl, inl, inr, bytes_eq, arith}
use Rattle.std.specs.Bool.{if◌then◌else◌}
use Rattle.std.specs.List.{list_any, list_all}
use Rattle.std.proofs.lemmas.Bool.{cases_Bool, true≢false, and_from, and_parts, or_parts, or_from, or_cases, le-ltb, ltb-false, eqb-true, false_from_ne_true}
use Rattle.std.proofs.lemmas.List.Folds.{list_any-append}
use Rattle.warp_step.specs.Valid.{is_distinct}
use Rattle.warp_prog.specs.File.{Word, ReactorPart}
use Rattle.warp_prog.specs.Twice.{how_often, stands_twice, repeats, all_names}
use Rattle.warp_prog.specs.Uses.{startup, is_among, variable_names, array_names, action_names, timer_names}
use Rattle.warp_prog.proofs.OnceLemmas.{same_name, own_name}

-- a test that finds less finds none either
pub any-less : {X : Type 0} (p q : X → Bool) → ((x : X) → p x ≡ false → q x ≡ false) → (xs : List X) → list_any p xs ≡ false → list_any q xs ≡ false
any-less p q f [] h = refl
any-less p q f (x ∷ xs) h = let parts = or_parts (p x) (list_any p xs) h in or_from (q x) (list_any q xs) (f x parts.0) (any-less p q f xs parts.1)

module _ {X : Type 0} (same : X → X → Bool) where
  -- what stands nowhere is not found
  never : (x : X) (xs : List X) → how_often same xs x ≤ 0 → list_any (same x) xs ≡ false
  never x [] h = refl
  never x (y ∷ ys) h =
      elim (cases_Bool (same x y)) [
        | inl so ↦
            (let e : how_often same (y ∷ ys) x ≡ 1 + how_often same ys x = ap (λ b. (if b then 1 else 0) + how_often same ys x) so in absurd (omega arith))
        | inr not_so ↦
            (let e : how_often same (y ∷ ys) x ≡ 0 + how_often same ys x = ap (λ b. (if b then 1 else 0) + how_often same ys x) not_so in
            or_from (same x y) (list_any (same x) ys) not_so (never x ys (omega arith)))
      ]

  at-least : (x y : X) (ys : List X) → how_often same ys x ≤ how_often same (y ∷ ys) x
  at-least x y ys = omega arith

  -- the first stands not among the rest, of which none stands twice
  pub apart-first : (x : X) (xs : List X) → same x x ≡ true → repeats same (x ∷ xs) ≡ false → (list_any (same x) xs ≡ false) × (repeats same xs ≡ false)
  apart-first x xs own h =
      let parts = or_parts (stands_twice same (x ∷ xs) x) (list_any (stands_twice same (x ∷ xs)) xs) h in
      let once : how_often same (x ∷ xs) x ≤ 1 = ltb-false 1 (how_often same (x ∷ xs) x) parts.0 in
      let e : how_often same (x ∷ xs) x ≡ 1 + how_often same xs x = ap (λ b. (if b then 1 else 0) + how_often same xs x) own in (
        never x xs (omega arith),
        any-less (stands_twice same (x ∷ xs)) (stands_twice same xs)
            (λ y f. (let most = ltb-false 1 (how_often same (x ∷ xs) y) f in let least = at-least y x xs in le-ltb 1 (how_often same xs y) (omega arith))) xs parts.1,
      )

  -- of the end of a list
  pub apart-rest : ((x : X) → same x x ≡ true) → (xs ys : List X) → repeats same (xs ++ ys) ≡ false → repeats same ys ≡ false
  apart-rest own [] ys h = h
  apart-rest own (x ∷ xs) ys h = apart-rest own xs ys (apart-first x (xs ++ ys) (own x) h).1

  -- numbers of things: no number twice, if things of one number are the same
  pub distinct-numbers : ((x : X) → same x x ≡ true) → (number : X → ℕ) (ok : X → Bool) →
      ((x y : X) → ok x ≡ true → ok y ≡ true → number y ≡ number x → same x y ≡ true) →
      (xs : List X) → list_all ok xs ≡ true → repeats same xs ≡ false → is_distinct (map number xs) ≡ true
  distinct-numbers own number ok one [] a h = refl
  distinct-numbers own number ok one (x ∷ xs) a h =
      let oks = and_parts (ok x) (list_all ok xs) a in
      let parts = apart-first x xs (own x) h in
      and_from _ _ (ap not (elsewhere xs oks.1 parts.0)) (distinct-numbers own number ok one xs oks.1 parts.1)
    where
      elsewhere : (ys : List X) → list_all ok ys ≡ true → list_any (same x) ys ≡ false → list_any (λ m. m == number x) (map number ys) ≡ false
      elsewhere [] ay f = refl
      elsewhere (y ∷ ys) ay f =
          let ays = and_parts (ok y) (list_all ok ys) ay in
          let fs = or_parts (same x y) (list_any (same x) ys) f in
          let okx = (and_parts (ok x) (list_all ok xs) a).0 in
          or_from (number y == number x) _
          (false_from_ne_true (number y == number x) (λ e. true≢false (sym (one x y okx ays.0 (eqb-true (number y) (number x) e)) ∙ fs.0)))
          (elsewhere ys ays.1 fs.1)

-- a name that is among the first is not among the rest
pub apart-names : (name : Word) (xs ys : List Word) → repeats bytes_eq (xs ++ ys) ≡ false → is_among xs name ≡ true → is_among ys name ≡ false
apart-names name [] ys h a = absurd (true≢false (sym a))
apart-names name (x ∷ xs) ys h a =
    let parts = apart-first bytes_eq x (xs ++ ys) (own_name x) h in
    elim (or_cases (bytes_eq name x) (is_among xs name) a) [
      | inl here ↦
          subst (λ n. is_among ys n ≡ false) (sym (same_name name x here))
          (or_parts (is_among xs x) (is_among ys x) (sym (list_any-append (bytes_eq x) xs ys) ∙ parts.0)).1
      | inr there ↦ apart-names name xs ys parts.1 there
    ]

-- an action of a reactor in which no name stands twice is no output
pub no-output : (r : ReactorPart) (name : Word) → repeats bytes_eq (all_names r) ≡ false → is_among (action_names r) name ≡ true →
    is_among r.outputs name ≡ false
unfolding all_names
no-output r name h a =
    let written = r.outputs ++ (action_names r ++ timer_names r) in
    let h0 = (apart-first bytes_eq startup (variable_names r ++ (array_names r ++ (r.inputs ++ written))) (own_name startup) h).1 in
    let h1 = apart-rest bytes_eq own_name (variable_names r) (array_names r ++ (r.inputs ++ written)) h0 in
    let h2 = apart-rest bytes_eq own_name (array_names r) (r.inputs ++ written) h1 in
    let h3 = apart-rest bytes_eq own_name r.inputs written h2 in
    false_from_ne_true (is_among r.outputs name) (λ o.
    true≢false (sym a ∙ (or_parts (is_among (action_names r) name) (is_among (timer_names r) name)
    (sym (list_any-append (bytes_eq name) (action_names r) (timer_names r)) ∙ apart-names name r.outputs (action_names r ++ timer_names r) h3 o)).0))
