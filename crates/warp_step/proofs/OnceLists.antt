-- Lists of numbers that have no number twice: what they have, and how many there may be.
use Rattle.std.proofs.Common.{◌≡◌, inl, inr, ℕ, zero, suc, ◌+◌, ◌<◌, ◌≤◌, ◌≢◌, Bool, true, false, not, ◌||◌, ◌==◌, nat_lt, List, [], ◌∷◌, length, filter, IsTrue, refl, sym, ap, ◌∙◌, subst, arith}
use Rattle.std.specs.List.{list_all, list_any}
use Rattle.std.proofs.lemmas.Bool.{cases_Bool, cases_lt, and_parts, and_from, eqb-true, eqb-false, ne_eqb, ltb-true, lt-ltb, not_from_true, not_from_false, not-true, or_cases, or_parts}
use Rattle.warp_tag.proofs.Lists.{filter-here, filter-past}
use Rattle.warp_step.specs.Valid.{is_distinct}

-- the number stands in the list
abbrev pub occurs : ℕ → List ℕ → Bool
occurs n ns = list_any (λ m. m == n) ns

-- the list without a number
abbrev pub without : ℕ → List ℕ → List ℕ
without m ns = filter (λ k. not (k == m)) ns

-- the first of a list without a number
pub without_here : (m n : ℕ) (ns : List ℕ) → (n == m) ≡ true → without m (n ∷ ns) ≡ without m ns
without_here m n ns same = filter-past (λ k. not (k == m)) n ns (not_from_true (n == m) same)

pub without_past : (m n : ℕ) (ns : List ℕ) → (n == m) ≡ false → without m (n ∷ ns) ≡ n ∷ without m ns
without_past m n ns other = filter-here (λ k. not (k == m)) n ns (not_from_false (n == m) other)

-- the first of a list of distinct numbers stands nowhere behind
pub first_once : (n : ℕ) (ns : List ℕ) → IsTrue (is_distinct (n ∷ ns)) → (occurs n ns ≡ false) × IsTrue (is_distinct ns)
first_once n ns once =
    let both = and_parts (not (occurs n ns)) (is_distinct ns) once in
    (not-true (occurs n ns) both.0, both.1)

-- what does not stand in a list is taken out in vain
pub without_absent : (m : ℕ) (ns : List ℕ) → occurs m ns ≡ false → without m ns ≡ ns
without_absent m [] none = refl
without_absent m (n ∷ ns) none =
    let both = or_parts (n == m) (occurs m ns) none in
    without_past m n ns both.0 ∙ ap (λ (rest : List ℕ). n ∷ rest) (without_absent m ns both.1)

-- what all pass, one that stands there passes
pub occurs_passes : (p : ℕ → Bool) (ns : List ℕ) (k : ℕ) → IsTrue (list_all p ns) → IsTrue (occurs k ns) → IsTrue (p k)
occurs_passes p [] k all there = let no : false ≡ true = there in cc
occurs_passes p (n ∷ ns) k all there =
    let both = and_parts (p n) (list_all p ns) all in
    elim (or_cases (n == k) (occurs k ns) there) [
      | inl here ↦ subst (λ (m : ℕ). IsTrue (p m)) (eqb-true n k here) both.0
      | inr behind ↦ occurs_passes p ns k both.1 behind
    ]

-- all pass that did, where one is taken out
pub all_without : (p : ℕ → Bool) (m : ℕ) (ns : List ℕ) → IsTrue (list_all p ns) → IsTrue (list_all p (without m ns))
all_without p m [] all = refl
all_without p m (n ∷ ns) all =
    let both = and_parts (p n) (list_all p ns) all in
    let rest = all_without p m ns both.1 in
    elim (cases_Bool (n == m)) [
      | inl same ↦ subst (λ (ks : List ℕ). IsTrue (list_all p ks)) (sym (without_here m n ns same)) rest
      | inr other ↦ subst (λ (ks : List ℕ). IsTrue (list_all p ks)) (sym (without_past m n ns other)) (and_from (p n) (list_all p (without m ns)) both.0 rest)
    ]

-- what stands in a list without a number
pub occurs_without : (n m : ℕ) (ns : List ℕ) → n ≢ m → occurs n (without m ns) ≡ occurs n ns
occurs_without n m [] other = refl
occurs_without n m (k ∷ ns) other =
    let rest = occurs_without n m ns other in
    elim (cases_Bool (k == m)) [
      | inl same ↦
          let apart : (k == n) ≡ false = ne_eqb k n (λ h. other (sym h ∙ eqb-true k m same)) in
          ap (occurs n) (without_here m k ns same) ∙ rest ∙ ap (λ (b : Bool). b || occurs n ns) (sym apart)
      | inr past ↦ ap (occurs n) (without_past m k ns past) ∙ ap (λ (b : Bool). (k == n) || b) rest
    ]

pub occurs_not : (m : ℕ) (ns : List ℕ) → occurs m (without m ns) ≡ false
occurs_not m [] = refl
occurs_not m (k ∷ ns) =
    elim (cases_Bool (k == m)) [
      | inl same ↦ ap (occurs m) (without_here m k ns same) ∙ occurs_not m ns
      | inr past ↦ ap (occurs m) (without_past m k ns past) ∙ ap (λ (b : Bool). b || occurs m (without m ns)) past ∙ occurs_not m ns
    ]

pub distinct_without : (m : ℕ) (ns : List ℕ) → IsTrue (is_distinct ns) → IsTrue (is_distinct (without m ns))
distinct_without m [] once = refl
distinct_without m (k ∷ ns) once =
    let both = first_once k ns once in
    let rest = distinct_without m ns both.1 in
    elim (cases_Bool (k == m)) [
      | inl same ↦ subst (λ (ks : List ℕ). IsTrue (is_distinct ks)) (sym (without_here m k ns same)) rest
      | inr past ↦
          let none : occurs k (without m ns) ≡ false = occurs_without k m ns (eqb-false k m past) ∙ both.0 in
          subst (λ (ks : List ℕ). IsTrue (is_distinct ks)) (sym (without_past m k ns past))
          (and_from (not (occurs k (without m ns))) (is_distinct (without m ns)) (not_from_false (occurs k (without m ns)) none) rest)
    ]

-- one less at most
length_without : (m : ℕ) (ns : List ℕ) → IsTrue (is_distinct ns) → length ns ≤ length (without m ns) + 1
length_without m [] once = omega arith
length_without m (k ∷ ns) once =
    let both = first_once k ns once in
    elim (cases_Bool (k == m)) [
      | inl same ↦
          let none : occurs m ns ≡ false = ap (λ (j : ℕ). occurs j ns) (sym (eqb-true k m same)) ∙ both.0 in
          let lengths = ap length (without_here m k ns same ∙ without_absent m ns none) in
          omega (arith, lengths)
      | inr past ↦
          let rest = length_without m ns both.1 in
          let lengths = ap length (without_past m k ns past) in
          omega (arith, rest, lengths)
    ]

-- without the greatest, all are below it
below_without : (top : ℕ) (ns : List ℕ) → IsTrue (list_all (λ n. nat_lt n (suc top)) ns) → IsTrue (list_all (λ n. nat_lt n top) (without top ns))
below_without top [] all = refl
below_without top (k ∷ ns) all =
    let both = and_parts (nat_lt k (suc top)) (list_all (λ n. nat_lt n (suc top)) ns) all in
    let rest = below_without top ns both.1 in
    elim (cases_Bool (k == top)) [
      | inl same ↦ subst (λ (ks : List ℕ). IsTrue (list_all (λ n. nat_lt n top) ks)) (sym (without_here top k ns same)) rest
      | inr past ↦
          let few : k < suc top = ltb-true k (suc top) both.0 in
          let other : k ≢ top = eqb-false k top past in
          let below : k < top = omega (arith, few, other) in
          subst (λ (ks : List ℕ). IsTrue (list_all (λ n. nat_lt n top) ks)) (sym (without_past top k ns past))
          (and_from (nat_lt k top) (list_all (λ n. nat_lt n top) (without top ns)) (lt-ltb k top below) rest)
    ]

-- distinct numbers below a limit are no more than it
pub few_distinct : (limit : ℕ) (ns : List ℕ) → IsTrue (is_distinct ns) → IsTrue (list_all (λ n. nat_lt n limit) ns) → length ns ≤ limit
few_distinct zero [] once all = omega arith
few_distinct zero (n ∷ ns) once all =
    let none : n < 0 = ltb-true n 0 (and_parts (nat_lt n 0) (list_all (λ m. nat_lt m 0) ns) all).0 in
    absurd (omega (arith, none))
few_distinct (suc top) ns once all =
    let rest = few_distinct top (without top ns) (distinct_without top ns once) (below_without top ns all) in
    let one = length_without top ns once in
    omega (arith, rest, one)

-- as many as there may be are all
pub all_occur : (limit : ℕ) (ns : List ℕ) (k : ℕ) → IsTrue (is_distinct ns) → IsTrue (list_all (λ n. nat_lt n limit) ns) → length ns ≡ limit
    → k < limit → occurs k ns ≡ true
all_occur limit ns k once all whole lt = elim (cases_Bool (occurs k ns)) [
  | inl there ↦ there
  | inr none ↦
      let more = few_distinct limit (k ∷ ns) (and_from (not (occurs k ns)) (is_distinct ns) (not_from_false (occurs k ns) none) once)
      (and_from (nat_lt k limit) (list_all (λ n. nat_lt n limit) ns) (lt-ltb k limit lt) all) in
      absurd (omega (arith, more, whole))
]

-- so two such lists have the same numbers
pub same_numbers : (limit : ℕ) (ns ms : List ℕ) → IsTrue (is_distinct ns) → IsTrue (list_all (λ n. nat_lt n limit) ns) → length ns ≡ limit
    → IsTrue (is_distinct ms) → IsTrue (list_all (λ n. nat_lt n limit) ms) → length ms ≡ limit → (k : ℕ) → occurs k ns ≡ occurs k ms
same_numbers limit ns ms once all whole once' all' whole' k = elim (cases_lt k limit) [
  | inl lt ↦ all_occur limit ns k once all whole lt ∙ sym (all_occur limit ms k once' all' whole' lt)
  | inr past ↦
      let none : (ks : List ℕ) → IsTrue (list_all (λ n. nat_lt n limit) ks) → occurs k ks ≡ false =
      λ ks below. elim (cases_Bool (occurs k ks)) [
        | inl there ↦ let lt : k < limit = ltb-true k limit (occurs_passes (λ n. nat_lt n limit) ks k below there) in absurd (omega (arith, lt, past))
        | inr past' ↦ past'
      ] in
      none ns all ∙ sym (none ms all')
]
