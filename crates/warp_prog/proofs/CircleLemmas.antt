-- A circle of reactions that wait for each other: one more that waits, and what it is to wait.
use Rattle.std.proofs.Common.{◌≡◌, ℕ, Bool, true, List, [], ◌∷◌, ◌++◌, length, map, get_or, ap, sym, ◌∙◌, refl, inl, inr, arith, zero-add}
use Rattle.std.specs.List.{range_with_len}
use Rattle.std.proofs.lemmas.Bool.{and_parts, and_from, cases_lt, true≢false}
use Rattle.std.proofs.lemmas.List.{get_or_past}
use Rattle.std.proofs.lemmas.List.FromFn.{length-map-range_with_len, get_or-map-range_with_len}
use Rattle.warp_step.specs.Program.{Program}
use Rattle.warp_step.specs.Order.{precedes, file_order}
use Rattle.warp_prog.specs.inner.Circle.{wait_in_turn, turns_back, is_circle}
use Rattle.warp_prog.specs.Order.{stands_in, predecessors}
use Rattle.warp_prog.specs.inner.Placing.{awaits}
use Rattle.warp_prog.proofs.MemberLemmas.{stands-filter}

-- the first of a list with one more
first-more : (ns : List ℕ) (n m : ℕ) → get_or (ns ++ n ∷ []) 0 m ≡ get_or ns 0 n
first-more [] n m = refl
first-more (x ∷ xs) n m = refl

-- one more behind those that wait in turn for it
waits-more : (waits : ℕ → ℕ → Bool) (ns : List ℕ) (n m : ℕ) → wait_in_turn waits ns n ≡ true → waits n m ≡ true →
    wait_in_turn waits (ns ++ n ∷ []) m ≡ true
waits-more waits [] n m h e = and_from _ _ e refl
waits-more waits (x ∷ xs) n m h e =
    let parts = and_parts (waits x (get_or xs 0 n)) (wait_in_turn waits xs n) h in
    and_from _ _ (ap (waits x) (first-more xs n m) ∙ parts.0) (waits-more waits xs n m parts.1 e)

-- what a walk along those that wait keeps: they wait in turn for the last, and the first is the walk's first
pub record IsWalk (waits : ℕ → ℕ → Bool) (ns : List ℕ) (first last : ℕ) : Type 0 where
  pub turn : wait_in_turn waits ns last ≡ true
  pub begins : get_or ns 0 last ≡ first

pub walk-begins : (waits : ℕ → ℕ → Bool) (first : ℕ) → IsWalk waits [] first first
walk-begins waits first = record { turn = refl; begins = refl }

pub walk-more : (waits : ℕ → ℕ → Bool) (ns new : List ℕ) (first last next : ℕ) → IsWalk waits ns first last → waits last next ≡ true →
    new ≡ ns ++ last ∷ [] → IsWalk waits new first next
walk-more waits ns new first last next h w e =
    rw e (record { turn = waits-more waits ns last next h.turn w; begins = first-more ns last next ∙ h.begins })

-- a walk that is back at its first is a circle
pub walk-ends : (waits : ℕ → ℕ → Bool) (ns new : List ℕ) (first last next : ℕ) → IsWalk waits ns first last → waits last next ≡ true →
    new ≡ ns ++ last ∷ [] → next ≡ first → turns_back waits new ≡ true
walk-ends waits ns new first last next h w e back =
    rw e
    (ap (wait_in_turn waits (ns ++ last ∷ [])) (first-more ns last 0 ∙ h.begins ∙ sym back) ∙ waits-more waits ns last next h.turn w)

-- those that wait in one way wait in another
waits-so : (one other : ℕ → ℕ → Bool) (ns : List ℕ) (last : ℕ) → ((n m : ℕ) → one n m ≡ true → other n m ≡ true) →
    wait_in_turn one ns last ≡ true → wait_in_turn other ns last ≡ true
waits-so one other [] last f h = refl
waits-so one other (n ∷ ns) last f h =
    let parts = and_parts (one n (get_or ns 0 last)) (wait_in_turn one ns last) h in
    and_from _ _ (f n (get_or ns 0 last) parts.0) (waits-so one other ns last f parts.1)

-- what a reaction waits for by the lists has to stand before it
awaits-precedes : (P : Program) (before : List (List ℕ)) (n m : ℕ) → before ≡ map (predecessors P) (file_order P) → awaits before n m ≡ true →
    precedes P m n ≡ true
awaits-precedes P before n m e h =
    let its = map (predecessors P) (range_with_len 0 (length P.reactions)) in
    let there : stands_in (get_or its n []) m ≡ true = rw e at h in
    elim (cases_lt n (length P.reactions)) [
      | inl l ↦
          (let one : stands_in (predecessors P n) m ≡ true =
          ap (λ ks. stands_in ks m) (sym (get_or-map-range_with_len (predecessors P) 0 (length P.reactions) n n [] l (zero-add n))) ∙ there in
          (stands-filter (λ k. precedes P k n) (file_order P) m one).1)
      | inr g ↦
          (let size = length-map-range_with_len (predecessors P) 0 (length P.reactions) in
          absurd (true≢false (sym (ap (λ ks. stands_in ks m) (sym (get_or_past its n [] (omega (arith, size, g)))) ∙ there))))
    ]

pub circle-so : (P : Program) (before : List (List ℕ)) (ns : List ℕ) → before ≡ map (predecessors P) (file_order P) →
    turns_back (awaits before) ns ≡ true → is_circle P ns ≡ true
circle-so P before ns e h = waits-so (awaits before) (λ n m. precedes P m n) ns (get_or ns 0 0) (λ n m. awaits-precedes P before n m e) h
