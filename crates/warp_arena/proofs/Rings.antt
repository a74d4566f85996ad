-- Chains of links: what they say of each place, and what is left of them after a change.
use Rattle.std.proofs.Common.{◌≡◌, ◌≢◌, ◌⊎◌, ℕ, zero, suc, ◌+◌, ◌<◌, ◌≤◌, cond, eqb, List, [], ◌∷◌, ◌++◌, length, refl, sym, ap, ◌∙◌, subst, inl, inr, arith, eq-eqb, ne_eqb}
use Rattle.std.specs.List.{AllByRecursion}
use Rattle.std.proofs.lemmas.Bool.{cases_eq}
use Rattle.warp_tag.proofs.Lists.{All-both, All-left, All-right}
use Rattle.warp_arena.specs.Changes.{Inserts, Skips}
use Rattle.warp_arena.specs.Shape.{walk, IsPath, IsChain, first_or, last_or, count_of}

-- ---- lists of indices

-- the index stands nowhere in the list
abbrev pub IsOff : ℕ → List ℕ → Type 0
IsOff x is = AllByRecursion (λ i. i ≢ x) is

-- each index stands once
abbrev pub IsApart : List ℕ → Type 0
IsApart [] = Unit {0}
IsApart (i ∷ is) = IsOff i is × IsApart is

pub first_holds : (P : ℕ → Type 0) (ys : List ℕ) (to : ℕ) → AllByRecursion P ys → P to → P (first_or ys to)
first_holds P [] to p h = h
first_holds P (y ∷ ys) to p h = p.0

pub last_holds : (P : ℕ → Type 0) (from : ℕ) (xs : List ℕ) → P from → AllByRecursion P xs → P (last_or from xs)
last_holds P from [] h p = h
last_holds P from (x ∷ xs) h p = last_holds P x xs p.0 p.1

-- ---- paths

pub walk_path : (next : ℕ → ℕ) (from : ℕ) (is : List ℕ) (to : ℕ) → IsPath next from is to → walk next (length is) from ≡ is
walk_path next from [] to p = refl
walk_path next from (i ∷ is) to p = rw p.0 (ap (λ xs. i ∷ xs) (walk_path next i is to p.1))

pub length-walk : (next : ℕ → ℕ) (count from : ℕ) → length (walk next count from) ≡ count
length-walk next zero from = refl
length-walk next (suc count) from = ap suc (length-walk next count (next from))

-- the link is the same after a change
abbrev pub IsSame : (ℕ → ℕ) → (ℕ → ℕ) → ℕ → Type 0
IsSame f g i = g i ≡ f i

pub IsPath-frame : (next next' : ℕ → ℕ) (from : ℕ) (is : List ℕ) (to : ℕ) → IsPath next from is to → IsSame next next' from → AllByRecursion (IsSame next next') is → IsPath next' from is to
IsPath-frame next next' from [] to p s a = s ∙ p
IsPath-frame next next' from (i ∷ is) to p s a = (s ∙ p.0, IsPath-frame next next' i is to p.1 a.0 a.1)

-- the rest of a path, from another place
pub IsPath-from : (next next' : ℕ → ℕ) (from from' : ℕ) (is : List ℕ) (to : ℕ) → IsPath next from is to → next' from' ≡ next from → AllByRecursion (IsSame next next') is → IsPath next' from' is to
IsPath-from next next' from from' [] to p e a = e ∙ p
IsPath-from next next' from from' (i ∷ is) to p e a = (e ∙ p.0, IsPath-frame next next' i is to p.1 a.0 a.1)

-- ---- chains

pub IsPath-chain : (next prev : ℕ → ℕ) (from : ℕ) (is : List ℕ) (to : ℕ) → IsChain next prev from is to → IsPath next from is to
IsPath-chain next prev from [] to p = p.0
IsPath-chain next prev from (i ∷ is) to p = (p.0, IsPath-chain next prev i is to p.2)

pub IsChain-frame : (next prev next' prev' : ℕ → ℕ) (from : ℕ) (is : List ℕ) (to : ℕ) → IsChain next prev from is to → IsSame next next' from → AllByRecursion (IsSame next next') is → AllByRecursion (IsSame prev prev') is → IsSame prev prev' to → IsChain next' prev' from is to
IsChain-frame next prev next' prev' from [] to p s a b e = (s ∙ p.0, e ∙ p.1)
IsChain-frame next prev next' prev' from (i ∷ is) to p s a b e = (s ∙ p.0, b.0 ∙ p.1, IsChain-frame next prev next' prev' i is to p.2 a.0 a.1 b.1 e)

-- what the links at a split of a chain say
pub IsChain-split : (next prev : ℕ → ℕ) (from : ℕ) (xs ys : List ℕ) (to : ℕ) → IsChain next prev from (xs ++ ys) to → (next (last_or from xs) ≡ first_or ys to) × (prev (first_or ys to) ≡ last_or from xs)
IsChain-split next prev from [] [] to p = p
IsChain-split next prev from [] (y ∷ ys) to p = (p.0, p.1)
IsChain-split next prev from (x ∷ xs) ys to p = IsChain-split next prev x xs ys to p.2

module _ (next prev next' prev' : ℕ → ℕ) (b x a : ℕ) (s : Inserts next prev next' prev' b x a) where
  nexts_all : (is : List ℕ) → IsOff b is → IsOff x is → AllByRecursion (IsSame next next') is
  nexts_all is f g = All-both (λ i. i ≢ b) (λ i. i ≢ x) (IsSame next next') (λ i p q. s.nexts i p q) is f g

  prevs_all : (is : List ℕ) → IsOff a is → IsOff x is → AllByRecursion (IsSame prev prev') is
  prevs_all is f g = All-both (λ i. i ≢ a) (λ i. i ≢ x) (IsSame prev prev') (λ i p q. s.prevs i p q) is f g

  -- the chain after the place came in
  pub IsChain-insert : (from : ℕ) (xs ys : List ℕ) (to : ℕ) → IsChain next prev from (xs ++ ys) to → last_or from xs ≡ b → first_or ys to ≡ a → from ≢ x → IsOff x (xs ++ ys) → to ≢ x → IsOff from (xs ++ ys) → IsApart (xs ++ ys) → IsOff to (xs ++ ys) → IsChain next' prev' from (xs ++ x ∷ ys) to
  IsChain-insert from [] [] to p eb ea fx ox tx of ap' ot =
      (ap next' eb ∙ s.into, s.back_out ∙ sym eb, (s.out ∙ sym ea, ap prev' ea ∙ s.back_into))
  IsChain-insert from [] (y ∷ ys) to p eb ea fx ox tx of ap' ot = (
    ap next' eb ∙ s.into,
    s.back_out ∙ sym eb,
    (
      s.out ∙ sym ea,
      ap prev' ea ∙ s.back_into,
      IsChain-frame next prev next' prev' y ys to p.2
          (s.nexts y (λ e. of.0 (e ∙ sym eb)) ox.0)
          (nexts_all ys (subst (λ k. IsOff k ys) eb of.1) ox.1)
          (prevs_all ys (subst (λ k. IsOff k ys) ea ap'.0) ox.1)
          (s.prevs to (λ e. ot.0 (ea ∙ sym e)) tx),
    ),
  )
  IsChain-insert from (k ∷ xs) ys to p eb ea fx ox tx of ap' ot =
      let at_end : last_or k xs ≢ from = last_holds (λ i. i ≢ from) k xs of.0 (All-left (λ i. i ≢ from) xs ys of.1) in
      let at_start : first_or ys to ≢ k = first_holds (λ i. i ≢ k) ys to (All-right (λ i. i ≢ k) xs ys ap'.0) (λ e. ot.0 (sym e)) in (
        s.nexts from (λ e. at_end (eb ∙ sym e)) fx ∙ p.0,
        s.prevs k (λ e. at_start (ea ∙ sym e)) ox.0 ∙ p.1,
        IsChain-insert k xs ys to p.2 eb ea ox.0 ox.1 tx ap'.0 ap'.1 ot.1,
      )

-- the chain after its first place went
pub IsChain-skip : (next prev next' prev' : ℕ → ℕ) (from x : ℕ) (is : List ℕ) (to : ℕ) → Skips next prev next' prev' from x → IsChain next prev from (x ∷ is) to → IsOff from is → IsOff x is → IsApart is → IsOff to is → to ≢ x → IsChain next' prev' from is to
IsChain-skip next prev next' prev' from x [] to s p of ox ap' ot tx =
    (s.into ∙ p.2.0, ap prev' (sym p.2.0) ∙ s.back_into)
IsChain-skip next prev next' prev' from x (y ∷ ys) to s p of ox ap' ot tx =
    let e : next x ≡ y = p.2.0 in (
      s.into ∙ e,
      ap prev' (sym e) ∙ s.back_into,
      IsChain-frame next prev next' prev' y ys to p.2.2
          (s.nexts y of.0 ox.0)
          (All-both (λ i. i ≢ from) (λ i. i ≢ x) (IsSame next next') (λ i f g. s.nexts i f g) ys of.1 ox.1)
          (All-both (λ i. i ≢ y) (λ i. i ≢ x) (IsSame prev prev') (λ i f g. s.prevs i (λ h. f (h ∙ e)) g) ys ap'.0 ox.1)
          (s.prevs to (λ h. ot.0 (sym (h ∙ e))) tx),
    )

-- ---- how often an index stands in a list

pub count_of-here : (x : ℕ) (is : List ℕ) → count_of x (x ∷ is) ≡ suc (count_of x is)
count_of-here x is = ap (λ b. cond b 1 0 + count_of x is) (eq-eqb x x refl) ∙ omega arith

pub count_of-other : (x i : ℕ) (is : List ℕ) → i ≢ x → count_of x (i ∷ is) ≡ count_of x is
count_of-other x i is n = ap (λ b. cond b 1 0 + count_of x is) (ne_eqb i x n) ∙ omega arith

pub count_of-append : (x : ℕ) (xs ys : List ℕ) → count_of x (xs ++ ys) ≡ count_of x xs + count_of x ys
count_of-append x [] ys = omega arith
count_of-append x (i ∷ xs) ys = omega (arith, count_of-append x xs ys)

pub IsOff-count : (x : ℕ) (is : List ℕ) → count_of x is ≡ 0 → IsOff x is
IsOff-count x [] e = tt
IsOff-count x (i ∷ is) e =
    elim (cases_eq i x) [
      | inl same ↦ absurd (omega (arith, subst (λ k. count_of x (k ∷ is) ≡ 0) same e, count_of-here x is))
      | inr other ↦ (other, IsOff-count x is (sym (count_of-other x i is other) ∙ e))
    ]

-- no index stands twice
pub IsApart-count : (is : List ℕ) → ((x : ℕ) → count_of x is ≤ 1) → IsApart is
IsApart-count [] h = tt
IsApart-count (i ∷ is) h = (
  IsOff-count i is (omega (arith, count_of-here i is, h i)),
  IsApart-count is (λ x. elim (cases_eq i x) [
    | inl same ↦ omega (arith, subst (λ k. count_of k is ≤ count_of k (i ∷ is)) same (omega (arith, count_of-here i is)), h x)
    | inr other ↦ omega (arith, count_of-other x i is other, h x)
  ]),
)

-- what holds of each index that stands in the list holds of all
pub All-from_in : (P : ℕ → Type 0) (is : List ℕ) → ((i : ℕ) → 0 < count_of i is → P i) → AllByRecursion P is
All-from_in P [] h = tt
All-from_in P (i ∷ is) h =
    (h i (omega (arith, count_of-here i is)), All-from_in P is (λ j p. h j (omega arith)))

pub All-at : (P : ℕ → Type 0) (is : List ℕ) (i : ℕ) → AllByRecursion P is → 0 < count_of i is → P i
All-at P [] i a p = absurd (omega arith)
All-at P (j ∷ is) i a p =
    elim (cases_eq j i) [
      | inl same ↦ subst P same a.0
      | inr other ↦ All-at P is i a.1 (omega (arith, count_of-other i j is other))
    ]

-- the last index, taken off
pub by_last : (is : List ℕ) → (is ≡ []) ⊎ ((front : List ℕ) × (k : ℕ) × (is ≡ front ++ k ∷ []))
by_last [] = inl refl
by_last (i ∷ is) =
    elim (by_last is) [
      | inl none ↦ inr ([], i, ap (λ js. i ∷ js) none)
      | inr some ↦ inr (i ∷ some.0, some.1, ap (λ js. i ∷ js) some.2)
    ]

pub last_or-push : (from : ℕ) (is : List ℕ) (k : ℕ) → last_or from (is ++ k ∷ []) ≡ k
last_or-push from [] k = refl
last_or-push from (i ∷ is) k = last_or-push i is k

-- at which place from 1 on an index stands
abbrev pub rank : ℕ → List ℕ → ℕ
rank k [] = 0
rank k (i ∷ is) = cond (eqb i k) 1 (suc (rank k is))

pub rank_at : (k : ℕ) (front back : List ℕ) → IsOff k front → rank k (front ++ k ∷ back) ≡ suc (length front)
rank_at k [] back off = ap (λ b. cond b 1 (suc (rank k back))) (eq-eqb k k refl)
rank_at k (i ∷ front) back off =
    ap (λ b. cond b 1 (suc (rank k (front ++ k ∷ back)))) (ne_eqb i k off.0) ∙ ap suc (rank_at k front back off.1)

pub IsOff-front : (k : ℕ) (front back : List ℕ) → IsApart (front ++ k ∷ back) → IsOff k front
IsOff-front k [] back apart = tt
IsOff-front k (i ∷ front) back apart =
    (λ e. (All-right (λ j. j ≢ i) front (k ∷ back) apart.0).0 (sym e), IsOff-front k front back apart.1)
