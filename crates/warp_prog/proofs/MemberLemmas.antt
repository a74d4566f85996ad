-- Numbers in lists: which stand in one, what a search finds, and that a list with no number twice is no longer than one that has all of its numbers.
use Rattle.std.proofs.Common.{◌≡◌, ℕ, zero, suc, ◌+◌, ◌<◌, ◌≤◌, Bool, true, false, not, ◌&&◌, ◌||◌, ◌==◌, cond, List, [], ◌∷◌, ◌++◌, length, filter, Some, None, ap, sym, subst, ◌∙◌, refl, inl, inr, arith}
use Rattle.std.specs.List.{list_all, find, range_with_len}
use Rattle.std.proofs.lemmas.Bool.{cases_Bool, cases_order, true≢false, cond-true, cond-false, cond_both, and_parts, and_from, or_cases, or_left, or_right, or_from, or_parts, not-true, not_from_false, eqb-true, eqb-false, eq-eqb, ne_eqb}
use Rattle.std.proofs.lemmas.List.Folds.{list_any-append}
use Rattle.warp_step.specs.Named.{is_distinct}
use Rattle.warp_prog.specs.Order.{stands_in}

or-none : (b : Bool) → (b || false) ≡ b
or-none true = refl
or-none false = refl

-- one more
pub stands-push : (o : List ℕ) (x n : ℕ) → stands_in (o ++ x ∷ []) n ≡ (stands_in o n || x == n)
stands-push o x n = list_any-append (λ m. m == n) o (x ∷ []) ∙ ap (λ b. stands_in o n || b) (or-none (x == n))

-- what all pass, one of them passes
pub all-at : (p : ℕ → Bool) (ns : List ℕ) (n : ℕ) → list_all p ns ≡ true → stands_in ns n ≡ true → p n ≡ true
all-at p [] n h s = absurd (true≢false (sym s))
all-at p (m ∷ ms) n h s =
    let parts = and_parts (p m) (list_all p ms) h in
    elim (or_cases (m == n) (stands_in ms n) s) [
      | inl e ↦ subst (λ k. p k ≡ true) (eqb-true m n e) parts.0
      | inr r ↦ all-at p ms n parts.1 r
    ]

pub all-from : (p : ℕ → Bool) (ns : List ℕ) → ((n : ℕ) → stands_in ns n ≡ true → p n ≡ true) → list_all p ns ≡ true
all-from p [] f = refl
all-from p (m ∷ ms) f =
    and_from (p m) (list_all p ms) (f m (or_left (m == m) (stands_in ms m) (eq-eqb m m refl)))
    (all-from p ms (λ n s. f n (or_right (m == n) (stands_in ms n) s)))

-- two tests that agree on them
pub all-same : (p q : ℕ → Bool) (ns : List ℕ) → ((n : ℕ) → stands_in ns n ≡ true → p n ≡ q n) → list_all p ns ≡ list_all q ns
all-same p q [] f = refl
all-same p q (m ∷ ms) f =
    ap (λ b. b && list_all p ms) (f m (or_left (m == m) (stands_in ms m) (eq-eqb m m refl)))
    ∙ ap (λ b. q m && b) (all-same p q ms (λ n s. f n (or_right (m == n) (stands_in ms n) s)))

-- numbers one after another
pub stands-range : (a n m : ℕ) → stands_in (range_with_len a n) m ≡ true → (a ≤ m) × (m < a + n)
stands-range a zero m s = absurd (true≢false (sym s))
stands-range a (suc n) m s =
    elim (or_cases (a == m) (stands_in (range_with_len (a + 1) n) m) s) [
      | inl e ↦ (let same = eqb-true a m e in (omega arith, omega arith))
      | inr r ↦ (let rest = stands-range (a + 1) n m r in (omega arith, omega arith))
    ]

pub range-stands : (a n m : ℕ) → a ≤ m → m < a + n → stands_in (range_with_len a n) m ≡ true
range-stands a zero m from to = absurd (omega arith)
range-stands a (suc n) m from to =
    elim (cases_order a m) [
      | inl e ↦ or_left (a == m) (stands_in (range_with_len (a + 1) n) m) (eq-eqb a m e)
      | inr (inl l) ↦ or_right (a == m) (stands_in (range_with_len (a + 1) n) m) (range-stands (a + 1) n m (omega arith) (omega arith))
      | inr (inr g) ↦ absurd (omega arith)
    ]

-- what passes a test
pub filter-stands : (p : ℕ → Bool) (ns : List ℕ) (m : ℕ) → stands_in ns m ≡ true → p m ≡ true → stands_in (filter p ns) m ≡ true
filter-stands p [] m s t = absurd (true≢false (sym s))
filter-stands p (n ∷ ns) m s t =
    elim (or_cases (n == m) (stands_in ns m) s) [
      | inl e ↦
          (let passes : p n ≡ true = subst (λ k. p k ≡ true) (sym (eqb-true n m e)) t in
          ap (λ ks. stands_in ks m) (cond-true (p n) (n ∷ filter p ns) (filter p ns) passes) ∙ or_left (n == m) (stands_in (filter p ns) m) e)
      | inr r ↦
          cond_both (p n) (n ∷ filter p ns) (filter p ns) (λ ks. stands_in ks m ≡ true)
          (λ _. or_right (n == m) (stands_in (filter p ns) m) (filter-stands p ns m r t)) (λ _. filter-stands p ns m r t)
    ]

pub stands-filter : (p : ℕ → Bool) (ns : List ℕ) (m : ℕ) → stands_in (filter p ns) m ≡ true → (stands_in ns m ≡ true) × (p m ≡ true)
stands-filter p [] m s = absurd (true≢false (sym s))
stands-filter p (n ∷ ns) m s =
    elim (cases_Bool (p n)) [
      | inl t ↦
          (let here = sym (ap (λ ks. stands_in ks m) (cond-true (p n) (n ∷ filter p ns) (filter p ns) t)) ∙ s in
          elim (or_cases (n == m) (stands_in (filter p ns) m) here) [
            | inl e ↦ (or_left (n == m) (stands_in ns m) e, subst (λ k. p k ≡ true) (eqb-true n m e) t)
            | inr r ↦ (let rest = stands-filter p ns m r in (or_right (n == m) (stands_in ns m) rest.0, rest.1))
          ])
      | inr f ↦
          (let rest = stands-filter p ns m (sym (ap (λ ks. stands_in ks m) (cond-false (p n) (n ∷ filter p ns) (filter p ns) f)) ∙ s) in
          (or_right (n == m) (stands_in ns m) rest.0, rest.1))
    ]

-- what a search finds
pub find-passes : (p : ℕ → Bool) (ns : List ℕ) (x : ℕ) → find p ns ≡ Some x → (stands_in ns x ≡ true) × (p x ≡ true)
find-passes p [] x h = absurd (cc)
find-passes p (m ∷ ms) x h =
    elim (cases_Bool (p m)) [
      | inl t ↦
          (let first : Some m ≡ Some x = sym (cond-true (p m) (Some m) (find p ms) t) ∙ h in
          let same : m ≡ x = cc in
          (or_left (m == x) (stands_in ms x) (eq-eqb m x same), subst (λ k. p k ≡ true) same t))
      | inr f ↦
          (let rest = find-passes p ms x (sym (cond-false (p m) (Some m) (find p ms) f) ∙ h) in
          (or_right (m == x) (stands_in ms x) rest.0, rest.1))
    ]

pub find-fails : (p : ℕ → Bool) (ns : List ℕ) (x : ℕ) → find p ns ≡ None → stands_in ns x ≡ true → p x ≡ false
find-fails p [] x h s = absurd (true≢false (sym s))
find-fails p (m ∷ ms) x h s =
    elim (cases_Bool (p m)) [
      | inl t ↦ (let first : Some m ≡ None = sym (cond-true (p m) (Some m) (find p ms) t) ∙ h in absurd (cc))
      | inr f ↦
          elim (or_cases (m == x) (stands_in ms x) s) [
            | inl e ↦ subst (λ k. p k ≡ false) (eqb-true m x e) f
            | inr r ↦ find-fails p ms x (sym (cond-false (p m) (Some m) (find p ms) f) ∙ h) r
          ]
    ]

-- one more number, that does not stand there
pub distinct-push : (o : List ℕ) (x : ℕ) → is_distinct o ≡ true → stands_in o x ≡ false → is_distinct (o ++ x ∷ []) ≡ true
distinct-push [] x d f = refl
distinct-push (m ∷ ms) x d f =
    let parts = and_parts (not (stands_in ms m)) (is_distinct ms) d in
    let new = or_parts (m == x) (stands_in ms x) f in
    let other : (x == m) ≡ false = ne_eqb x m (λ e. eqb-false m x new.0 (sym e)) in
    and_from (not (stands_in (ms ++ x ∷ []) m)) (is_distinct (ms ++ x ∷ []))
    (not_from_false (stands_in (ms ++ x ∷ []) m) (stands-push ms x m ∙ or_from (stands_in ms m) (x == m) (not-true (stands_in ms m) parts.0) other))
    (distinct-push ms x parts.1 new.1)

-- a list without the first place of a number
abbrev without : ℕ → List ℕ → List ℕ
without x [] = []
without x (y ∷ ys) = cond (y == x) ys (y ∷ without x ys)

length-without : (x : ℕ) (ys : List ℕ) → stands_in ys x ≡ true → suc (length (without x ys)) ≡ length ys
length-without x [] s = absurd (true≢false (sym s))
length-without x (y ∷ ys) s =
    elim (cases_Bool (y == x)) [
      | inl e ↦ ap (λ zs. suc (length zs)) (cond-true (y == x) ys (y ∷ without x ys) e)
      | inr f ↦
          (let later : stands_in ys x ≡ true = sym (ap (λ b. b || stands_in ys x) f) ∙ s in
          ap (λ zs. suc (length zs)) (cond-false (y == x) ys (y ∷ without x ys) f) ∙ ap suc (length-without x ys later))
    ]

still-stands : (x z : ℕ) (ys : List ℕ) → stands_in ys z ≡ true → (x == z) ≡ false → stands_in (without x ys) z ≡ true
still-stands x z [] s other = absurd (true≢false (sym s))
still-stands x z (y ∷ ys) s other =
    elim (cases_Bool (y == x)) [
      | inl e ↦
          (let skipped : (y == z) ≡ false = subst (λ k. (k == z) ≡ false) (sym (eqb-true y x e)) other in
          let later : stands_in ys z ≡ true = sym (ap (λ b. b || stands_in ys z) skipped) ∙ s in
          ap (λ zs. stands_in zs z) (cond-true (y == x) ys (y ∷ without x ys) e) ∙ later)
      | inr f ↦
          ap (λ zs. stands_in zs z) (cond-false (y == x) ys (y ∷ without x ys) f)
          ∙ elim (or_cases (y == z) (stands_in ys z) s) [
            | inl e ↦ or_left (y == z) (stands_in (without x ys) z) e
            | inr r ↦ or_right (y == z) (stands_in (without x ys) z) (still-stands x z ys r other)
          ]
    ]

-- a list with no number twice is no longer than one that has all of its numbers
pub no-longer : (xs ys : List ℕ) → is_distinct xs ≡ true → list_all (stands_in ys) xs ≡ true → length xs ≤ length ys
no-longer [] ys d h = omega arith
no-longer (x ∷ xs) ys d h =
    let own = and_parts (not (stands_in xs x)) (is_distinct xs) d in
    let all = and_parts (stands_in ys x) (list_all (stands_in ys) xs) h in
    let fresh = not-true (stands_in xs x) own.0 in
    let other : (z : ℕ) → stands_in xs z ≡ true → (x == z) ≡ false =
    λ z s. ne_eqb x z (λ e. true≢false (sym (subst (λ k. stands_in xs k ≡ true) (sym e) s) ∙ fresh)) in
    let rest = no-longer xs (without x ys) own.1
    (all-from (stands_in (without x ys)) xs (λ z s. still-stands x z ys (all-at (stands_in ys) xs z all.1 s) (other z s))) in
    let one = length-without x ys all.0 in
    omega arith
