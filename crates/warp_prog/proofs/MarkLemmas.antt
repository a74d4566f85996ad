-- Marks on numbers, and the ports that a reaction writes, looked for from either side.
use Rattle.std.proofs.Common.{◌≡◌, ℕ, ◌<◌, Bool, true, false, ◌||◌, ◌==◌, List, [], ◌∷◌, ◌++◌, length, get_or, set, replicate, ap, sym, ◌∙◌, refl, inl, inr, arith}
use Rattle.std.specs.List.{list_any}
use Rattle.std.proofs.lemmas.Bool.{cases_eq, eq-eqb, ne_eqb}
use Rattle.std.proofs.lemmas.List.{length-set, length-replicate, get_or-replicate, get_or-set_same, get_or-set_other}
use Rattle.warp_body.specs.Presence.{is_target}
use Rattle.warp_body.specs.declared.place.Target.{Target}
use Rattle.warp_body.specs.declared.place.Target.TheVariants as to
use Rattle.warp_step.specs.Named.{names}
use Rattle.warp_prog.specs.Order.{stands_in}
use Rattle.warp_prog.specs.inner.Placing.{AreMarks}
use Rattle.warp_prog.proofs.MemberLemmas.{stands-push}

-- nothing is marked at first
pub no-marks : (marks : List Bool) (count : ℕ) → marks ≡ replicate count false → AreMarks marks []
no-marks marks count e n l =
    let size : length marks ≡ count = ap length e ∙ length-replicate count false in
    ap (λ ms. get_or ms n false) e ∙ get_or-replicate count n false false (omega (arith, size, l))

or-second : (a b : Bool) → b ≡ true → (a || b) ≡ true
or-second true b e = refl
or-second false b e = e

or-first : (a b : Bool) → b ≡ false → (a || b) ≡ a
or-first true b e = refl
or-first false b e = e

-- one number more
pub marks-more : (marks new : List Bool) (o more : List ℕ) (x : ℕ) → AreMarks marks o → new ≡ set marks x true → more ≡ o ++ x ∷ [] → AreMarks new more
marks-more marks new o more x h e f n l =
    let size : length new ≡ length marks = ap length e ∙ length-set marks x true in
    let within : n < length marks = omega (arith, size, l) in
    ap (λ ms. get_or ms n false) e
    ∙ elim (cases_eq n x) [
      | inl same ↦
          ap (λ k. get_or (set marks x true) k false) same ∙ get_or-set_same marks x true false (omega (arith, same, within))
          ∙ sym (stands-push o x n ∙ or-second (stands_in o n) (x == n) (eq-eqb x n (sym same)))
      | inr ne ↦
          get_or-set_other marks x n true false ne ∙ h n within
          ∙ sym (stands-push o x n ∙ or-first (stands_in o n) (x == n) (ne_eqb x n (λ same. ne (sym same))))
    ]
    ∙ sym (ap (λ ns. stands_in ns n) f)

-- what is none of these is none of them
any-false : {X : Type 0} (xs : List X) → list_any (λ _. false) xs ≡ false
any-false [] = refl
any-false (x ∷ xs) = any-false xs

any-or : {X : Type 0} (p q : X → Bool) (xs : List X) → (list_any p xs || list_any q xs) ≡ list_any (λ x. p x || q x) xs
any-or p q [] = refl
any-or p q (x ∷ xs) = swapped (p x) (list_any p xs) (q x) (list_any q xs) ∙ ap (λ b. (p x || q x) || b) (any-or p q xs)
  where
    swapped : (a b c d : Bool) → ((a || b) || (c || d)) ≡ ((a || c) || (b || d))
    swapped true b c d = refl
    swapped false true true d = refl
    swapped false true false d = refl
    swapped false false true d = refl
    swapped false false false d = refl

-- some pair of two lists passes, looked for from either side
any-swap : {X Y : Type 0} (f : X → Y → Bool) (xs : List X) (ys : List Y) → list_any (λ x. list_any (f x) ys) xs ≡ list_any (λ y. list_any (λ x. f x y) xs) ys
any-swap f [] ys = sym (any-false ys)
any-swap f (x ∷ xs) ys = ap (λ b. list_any (f x) ys || b) (any-swap f xs ys) ∙ any-or (f x) (λ y. list_any (λ x. f x y) xs) ys

-- a reaction writes one of these ports where something that it writes is one of them
pub writes-from : (writes : List Target) (ports : List ℕ) →
    list_any (λ t. list_any (λ p. is_target (to.Port p) t) ports) writes ≡ list_any (λ p. names writes (to.Port p)) ports
writes-from writes ports = any-swap (λ t p. is_target (to.Port p) t) writes ports

-- what is no port is none of these
pub no-port : (t : Target) (ports : List ℕ) → ((n : ℕ) → t ≡ to.Port n → ⊥) → false ≡ list_any (λ p. is_target (to.Port p) t) ports
no-port (to.Port n) ports other = absurd (other n refl)
no-port to.Startup ports other = sym (any-false ports)
no-port (to.Timer n) ports other = sym (any-false ports)
no-port (to.Action n) ports other = sym (any-false ports)
