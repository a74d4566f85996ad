-- The loader's order: it is admissible where it is whole, and it is whole where some order is admissible.
use Rattle.std.proofs.Common.{◌≡◌, ◌⊎◌, ℕ, zero, suc, ◌+◌, ◌<◌, ◌≤◌, Bool, true, false, not, ◌&&◌, ◌||◌, ◌==◌, List, [], ◌∷◌, ◌++◌, length, Option, Some, None, sym, subst, ◌∙◌, refl, inl, inr, arith, nat_lt}
use Rattle.std.specs.Option.{option_map_or}
use Rattle.std.specs.List.{list_all, range_with_len}
use Rattle.std.proofs.lemmas.Bool.{cases_Bool, true≢false, both_ways, false_from_ne_true, and_parts, and_from, or_cases, or_left, or_right, not-true, not_from_false, eqb-true, eq-eqb, ltb-true, ltb-false, lt-ltb, le-ltb, not_from_true}
use Rattle.std.proofs.lemmas.List.{length_push}
use Rattle.std.proofs.lemmas.List.FromFn.{length-range_with_len}
use Rattle.std.proofs.lemmas.List.Folds.{list_all-append}
use Rattle.warp_step.specs.Program.{Program}
use Rattle.warp_step.specs.Named.{is_distinct, has}
use Rattle.warp_step.specs.Order.{precedes, keeps_before, is_admissible, file_order}
use Rattle.warp_prog.specs.Order.{stands_in, predecessors, is_ready, next_ready, continued, loader_order, has_no_order}
use Rattle.warp_prog.proofs.MemberLemmas.{stands-push, all-at, all-from, stands-range, range-stands, filter-stands, stands-filter, find-passes, find-fails, distinct-push, no-longer}

-- what is there has a number
has-within : {X : Type 0} (xs : List X) (n : ℕ) (q : X → Bool) → has xs n q ≡ true → n < length xs
has-within [] n q h = absurd (true≢false (sym h))
has-within (x ∷ xs) zero q h = omega arith
has-within (x ∷ xs) (suc n) q h = let rest = has-within xs n q h in omega arith

-- what is kept of a part of the loader's order: whatever precedes a reaction of it is in it, and stands before
pub record IsPlaced (P : Program) (o : List ℕ) : Type 0 where
  pub distinct : is_distinct o ≡ true
  pub below : list_all (λ n. nat_lt n (length P.reactions)) o ≡ true
  pub keeps : keeps_before P o ≡ true
  pub closed : (m n : ℕ) → stands_in o n ≡ true → precedes P m n ≡ true → stands_in o m ≡ true

nothing-placed : (P : Program) → IsPlaced P []
nothing-placed P = record { distinct = refl; below = refl; keeps = refl; closed = λ m n s p. absurd (true≢false (sym s)) }

-- whatever precedes a reaction is one of its predecessors
is-predecessor : (P : Program) (m n : ℕ) → precedes P m n ≡ true → stands_in (predecessors P n) m ≡ true
is-predecessor P m n h =
    let within = has-within P.reactions m _ h in
    filter-stands (λ k. precedes P k n) (file_order P) m (range-stands 0 (length P.reactions) m (omega arith) (omega arith)) h

-- one more, behind those that it does not precede
keeps-push : (P : Program) (o : List ℕ) (x : ℕ) → keeps_before P o ≡ true → ((n : ℕ) → stands_in o n ≡ true → precedes P x n ≡ false) →
    precedes P x x ≡ false → keeps_before P (o ++ x ∷ []) ≡ true
keeps-push P [] x k f own = and_from _ _ (and_from _ _ (not_from_false (precedes P x x) own) refl) refl
keeps-push P (n ∷ ns) x k f own =
    let parts = and_parts (list_all (λ m. not (precedes P m n)) (n ∷ ns)) (keeps_before P ns) k in
    let last = f n (or_left (n == n) (stands_in ns n) (eq-eqb n n refl)) in
    and_from _ _
    (list_all-append (λ m. not (precedes P m n)) (n ∷ ns) (x ∷ [])
    ∙ and_from _ _ parts.0 (and_from _ _ (not_from_false (precedes P x n) last) refl))
    (keeps-push P ns x parts.1 (λ m s. f m (or_right (n == m) (stands_in ns m) s)) own)

module _ (P : Program) (o : List ℕ) (h : IsPlaced P o) (x : ℕ) (ready : is_ready P o x ≡ true) where
  fresh : stands_in o x ≡ false
  fresh = not-true (stands_in o x) (and_parts (not (stands_in o x)) (list_all (stands_in o) (predecessors P x)) ready).0

  before : (m : ℕ) → precedes P m x ≡ true → stands_in o m ≡ true
  before m p =
      all-at (stands_in o) (predecessors P x) m (and_parts (not (stands_in o x)) (list_all (stands_in o) (predecessors P x)) ready).1 (is-predecessor P m x p)

  placed-push : nat_lt x (length P.reactions) ≡ true → IsPlaced P (o ++ x ∷ [])
  placed-push within = record {
    distinct = distinct-push o x h.distinct fresh;
    below = list_all-append (λ n. nat_lt n (length P.reactions)) o (x ∷ []) ∙ and_from _ _ h.below (and_from _ _ within refl);
    keeps = keeps-push P o x h.keeps
        (λ n s. false_from_ne_true (precedes P x n) (λ p. true≢false (sym (h.closed x n s p) ∙ fresh)))
        (false_from_ne_true (precedes P x x) (λ p. true≢false (sym (before x p) ∙ fresh)));
    closed = λ m n s p.
        stands-push o x m
        ∙ or_left (stands_in o m) (x == m)
        (elim (or_cases (stands_in o n) (x == n) (sym (stands-push o x n) ∙ s)) [
          | inl there ↦ h.closed m n there p
          | inr e ↦ before m (subst (λ k. precedes P m k ≡ true) (sym (eqb-true x n e)) p)
        ]);
  }

-- what holds of an order, whether it goes on or not
by-next : (P : Program) (n : ℕ) (o : List ℕ) (next : Option ℕ) (Q : List ℕ → Type 0) → (next ≡ None → Q o) →
    ((x : ℕ) → next ≡ Some x → Q (continued P n (o ++ x ∷ []))) → Q (option_map_or (λ x. continued P n (o ++ x ∷ [])) next o)
by-next P n o None Q none some = none refl
by-next P n o (Some x) Q none some = some x refl

-- the reaction that is next is one of the program's, and ready
next-ready : (P : Program) (o : List ℕ) (x : ℕ) → next_ready P o ≡ Some x → (is_ready P o x ≡ true) × (nat_lt x (length P.reactions) ≡ true)
next-ready P o x e =
    let found = find-passes (is_ready P o) (file_order P) x e in
    let within = stands-range 0 (length P.reactions) x found.0 in
    (found.1, lt-ltb x (length P.reactions) (omega arith))

placed-next : (P : Program) (o : List ℕ) (x : ℕ) → IsPlaced P o → next_ready P o ≡ Some x → IsPlaced P (o ++ x ∷ [])
placed-next P o x h e = let next = next-ready P o x e in placed-push P o h x next.0 next.1

pub placed-continued : (P : Program) (n : ℕ) (o : List ℕ) → IsPlaced P o → IsPlaced P (continued P n o)
placed-continued P zero o h = h
placed-continued P (suc n) o h =
    by-next P n o (next_ready P o) (IsPlaced P) (λ _. h) (λ x e. placed-continued P n (o ++ x ∷ []) (placed-next P o x h e))

-- it has no more than there are
few-placed : (P : Program) (o : List ℕ) → IsPlaced P o → length o ≤ length P.reactions
few-placed P o h =
    let n = length P.reactions in
    let within : (m : ℕ) → stands_in o m ≡ true → stands_in (range_with_len 0 n) m ≡ true =
    λ m s. (let l = ltb-true m n (all-at (λ k. nat_lt k n) o m h.below s) in range-stands 0 n m (omega arith) (omega arith)) in
    let le = no-longer o (range_with_len 0 n) h.distinct (all-from (stands_in (range_with_len 0 n)) o within) in
    let size = length-range_with_len 0 n in
    omega arith

-- where it is whole it is admissible
whole-admissible : (P : Program) (o : List ℕ) → IsPlaced P o → length o ≡ length P.reactions → is_admissible P o ≡ true
whole-admissible P o h e =
    and_from _ _ (and_from _ _ (and_from _ _ (eq-eqb (length o) (length P.reactions) e) h.distinct) h.below) h.keeps

-- what an admissible order is
pub record IsOrder (P : Program) (a : List ℕ) : Type 0 where
  pub size : length a ≡ length P.reactions
  pub distinct : is_distinct a ≡ true
  pub below : list_all (λ n. nat_lt n (length P.reactions)) a ≡ true
  pub keeps : keeps_before P a ≡ true

is-order : (P : Program) (a : List ℕ) → is_admissible P a ≡ true → IsOrder P a
is-order P a h =
    let three = and_parts ((length a == length P.reactions) && is_distinct a && list_all (λ n. nat_lt n (length P.reactions)) a) (keeps_before P a) h in
    let two = and_parts ((length a == length P.reactions) && is_distinct a) (list_all (λ n. nat_lt n (length P.reactions)) a) three.0 in
    let one = and_parts (length a == length P.reactions) (is_distinct a) two.0 in
    record { size = eqb-true (length a) (length P.reactions) one.0; distinct = one.1; below = two.1; keeps = three.1 }

module _ (P : Program) (a : List ℕ) (is : IsOrder P a) where
  in-range : (m : ℕ) → stands_in a m ≡ true → stands_in (range_with_len 0 (length P.reactions)) m ≡ true
  in-range m s =
      let l = ltb-true m (length P.reactions) (all-at (λ k. nat_lt k (length P.reactions)) a m is.below s) in
      range-stands 0 (length P.reactions) m (omega arith) (omega arith)

  -- each reaction stands in it
  each-stands : (m : ℕ) → m < length P.reactions → stands_in a m ≡ true
  each-stands m l =
      elim (cases_Bool (stands_in a m)) [
        | inl s ↦ s
        | inr f ↦
            (let le = no-longer (m ∷ a) (range_with_len 0 (length P.reactions)) (and_from _ _ (not_from_false (stands_in a m) f) is.distinct)
            (and_from _ _ (range-stands 0 (length P.reactions) m (omega arith) (omega arith))
            (all-from (stands_in (range_with_len 0 (length P.reactions))) a in-range)) in
            let n = length-range_with_len 0 (length P.reactions) in
            let same = is.size in
            absurd (omega arith))
      ]

  -- of those of it that are left, all stand already, or one is ready
  left-ready : (o left : List ℕ) → keeps_before P left ≡ true → ((m : ℕ) → m < length P.reactions → (stands_in o m || stands_in left m) ≡ true) →
      (list_all (stands_in o) left ≡ true) ⊎ ((y : ℕ) × (stands_in left y ≡ true) × (is_ready P o y ≡ true))
  left-ready o [] k all = inl refl
  left-ready o (y ∷ ys) k all =
      let parts = and_parts (list_all (λ m. not (precedes P m y)) (y ∷ ys)) (keeps_before P ys) k in
      elim (cases_Bool (stands_in o y)) [
        | inl there ↦
            (let rest : (m : ℕ) → m < length P.reactions → (stands_in o m || stands_in ys m) ≡ true =
            λ m l.
            elim (or_cases (stands_in o m) (stands_in (y ∷ ys) m) (all m l)) [
              | inl s ↦ or_left (stands_in o m) (stands_in ys m) s
              | inr s ↦
                  elim (or_cases (y == m) (stands_in ys m) s) [
                    | inl e ↦ or_left (stands_in o m) (stands_in ys m) (subst (λ k. stands_in o k ≡ true) (eqb-true y m e) there)
                    | inr r ↦ or_right (stands_in o m) (stands_in ys m) r
                  ]
            ] in
            elim (left-ready o ys parts.1 rest) [
              | inl r ↦ inl (and_from (stands_in o y) (list_all (stands_in o) ys) there r)
              | inr z ↦ inr (z.0, or_right (y == z.0) (stands_in ys z.0) z.1, z.2)
            ])
        | inr new ↦
            (let its : (m : ℕ) → stands_in (predecessors P y) m ≡ true → stands_in o m ≡ true =
            λ m s.
            (let found = stands-filter (λ k. precedes P k y) (file_order P) m s in
            let within = stands-range 0 (length P.reactions) m found.0 in
            elim (or_cases (stands_in o m) (stands_in (y ∷ ys) m) (all m (omega arith))) [
              | inl t ↦ t
              | inr t ↦ absurd (both_ways (precedes P m y) (not-true (precedes P m y) (all-at (λ k. not (precedes P k y)) (y ∷ ys) m parts.0 t)) found.1)
            ]) in
            inr (
              y,
              or_left (y == y) (stands_in ys y) (eq-eqb y y refl),
              and_from (not (stands_in o y)) (list_all (stands_in o) (predecessors P y)) (not_from_false (stands_in o y) new) (all-from (stands_in o) (predecessors P y) its),
            ))
      ]

  -- so the loader's order goes on until all stand
  goes-on : (o : List ℕ) (n : ℕ) → length o + suc n ≡ length P.reactions → next_ready P o ≡ None → ⊥
  goes-on o n e none =
      elim (left-ready o a is.keeps (λ m l. or_right (stands_in o m) (stands_in a m) (each-stands m l))) [
        | inl all ↦ (let le = no-longer a o is.distinct all in let same = is.size in omega arith)
        | inr y ↦
            both_ways (is_ready P o y.0) (find-fails (is_ready P o) (file_order P) y.0 none (in-range y.0 y.1)) y.2
      ]

  whole : (n : ℕ) (o : List ℕ) → length o + n ≡ length P.reactions → IsPlaced P o → length (continued P n o) ≡ length P.reactions
  whole zero o e h = omega arith
  whole (suc n) o e h =
      by-next P n o (next_ready P o) (λ r. length r ≡ length P.reactions) (λ none. absurd (goes-on o n e none))
      (λ x next. whole n (o ++ x ∷ []) (let one = length_push o x in omega arith) (placed-next P o x h next))

-- and is admissible
pub order-found : (P : Program) (a : List ℕ) → is_admissible P a ≡ true → is_admissible P (loader_order P) ≡ true
order-found P a h =
    whole-admissible P (loader_order P) (placed-continued P (length P.reactions) [] (nothing-placed P))
    (whole P a (is-order P a h) (length P.reactions) [] (omega arith) (nothing-placed P))

-- it is too short exactly where no order is admissible
pub short-order : (P : Program) → nat_lt (length (loader_order P)) (length P.reactions) ≡ has_no_order P
short-order P =
    let placed = placed-continued P (length P.reactions) [] (nothing-placed P) in
    elim (cases_Bool (is_admissible P (loader_order P))) [
      | inl h ↦
          (let same = (is-order P (loader_order P) h).size in
          le-ltb (length (loader_order P)) (length P.reactions) (omega arith) ∙ sym (not_from_true (is_admissible P (loader_order P)) h))
      | inr f ↦
          (let few = few-placed P (loader_order P) placed in
          let other : length (loader_order P) ≡ length P.reactions → ⊥ =
          λ e. both_ways (is_admissible P (loader_order P)) f (whole-admissible P (loader_order P) placed e) in
          elim (cases_Bool (nat_lt (length (loader_order P)) (length P.reactions))) [
            | inl l ↦ l ∙ sym (not_from_false (is_admissible P (loader_order P)) f)
            | inr g ↦ absurd (other (let le = ltb-false (length (loader_order P)) (length P.reactions) g in omega arith))
          ])
    ]
