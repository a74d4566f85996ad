-- Places of connections, and what is kept in them.
use Rattle.std.proofs.Common.{◌≡◌, ◌⊎◌, ◌≤◌, ◌<◌, ◌-◌, ℕ, zero, suc, List, [], ◌∷◌, ◌++◌, Option, Some, None, drop, length, map, refl, sym, ap, ◌∙◌, subst, inl, inr, arith}
use Rattle.std.specs.Prelude.{IfNone, IfSome, slice_get, slice_index_or, slice_set, take}
use Rattle.std.proofs.lemmas.List.{drop_all, length-drop, take_all}
use Rattle.warp_replica.specs.Answered.{TimelineFacts}
use Rattle.warp_watch.specs.declared.client_id.ClientId.{ClientId}
use Rattle.warp_clients.specs.Client.{Heard}
use Rattle.warp_clients.specs.Steps.{ClientsState, Does}
use Rattle.warp_machine.specs.Keeping.{AreKept, HearsBehind, HearsKept, IsPlaceOf, Keeping, KeepsFor, KeepsOn, NoneKept, TakesFirst, keeping, keepings}
use Rattle.warp_machine.specs.Moving.{HearsOf, Moved, Stepped}
use Rattle.warp_machine.specs.declared.conn.Conn.{Conn}
use Rattle.warp_machine.specs.declared.conns.Conns.{Conns}
use Rattle.warp_machine.proofs.Joining.{hears_first, hears_longer, hears_more, hears_none, hears_on, hears_one, stays}

none_some : {X : Type 0} (x : X) → Option.None ≡ Some x → ⊥
none_some {X} x is = subst (λ (o : Option X). elim o as (λ _. Type 0) [ None ↦ Unit {0} | Some y ↦ ⊥ ]) is tt

some_same : {X : Type 0} (x y : X) → Some x ≡ Some y → x ≡ y
some_same {X} x y is = ap (λ (o : Option X). elim o [ Some v ↦ v | None ↦ x ]) is

got : (all : List Conn) (at : ℕ) (v c : Conn) → slice_get all at ≡ Some c → v ≡ slice_index_or all at v → v ≡ c
got [] at v c there is = absurd (none_some c there)
got (x ∷ all) zero v c there is = is ∙ some_same x c there
got (x ∷ all) (suc at) v c there is = got all at v c there is

-- which connection is at a place
pub conn_there : (all : List Conn) (at : ℕ) (v : Conn) → at < length all → v ≡ slice_index_or all at v → slice_get all at ≡ Some v
conn_there [] at v less is = absurd (no_less at less)
  where
    no_less : (n : ℕ) → n < 0 → ⊥
    no_less n less = omega (arith, less)
conn_there (x ∷ all) zero v less is = ap (λ (c : Conn). Some c) (sym is)
conn_there (x ∷ all) (suc at) v less is = conn_there all at v (omega (arith, less)) is

-- what a place has
pub place_at : (all : List Conn) (at : ℕ) (conn : Conn) → slice_get all at ≡ Some conn → slice_get (map keeping all) at ≡ Some (keeping conn)
place_at [] at conn is = absurd (none_some conn is)
place_at (x ∷ all) zero conn is = ap (λ (c : Conn). Some (keeping c)) (some_same x conn is)
place_at (x ∷ all) (suc at) conn is = place_at all at conn is

no_place : (all : List Conn) (at : ℕ) → slice_get all at ≡ None → slice_get (map keeping all) at ≡ None
no_place [] at none = refl
no_place (x ∷ all) zero none = absurd (none_some x (sym none))
no_place (x ∷ all) (suc at) none = no_place all at none

-- what is kept stays where a place changes otherwise
pub same_place : (all : List Conn) (at : ℕ) (c c' : Conn) → c ≡ slice_index_or all at c → keeping c' ≡ keeping c
    → map keeping (slice_set all at c') ≡ map keeping all
same_place [] at c c' is same = refl
same_place (x ∷ all) zero c c' is same = ap (λ (y : Keeping). y ∷ map keeping all) (same ∙ ap keeping is)
same_place (x ∷ all) (suc at) c c' is same = ap (λ (l : List Keeping). keeping x ∷ l) (same_place all at c c' is same)

pub set_place : (all : List Conn) (at : ℕ) (c d : Conn) → slice_get all at ≡ Some c → slice_get (slice_set all at d) at ≡ Some d
set_place [] at c d there = absurd (none_some c there)
set_place (x ∷ all) zero c d there = refl
set_place (x ∷ all) (suc at) c d there = set_place all at c d there

-- what is kept for a client is what its place has
pub own_kept : (all : List Conn) (who : ClientId) (conn : Conn) → slice_get all who.key ≡ Some conn → IsPlaceOf who (keeping conn)
    → AreKept (map keeping all) who conn.rest.items
own_kept all who conn there is = inr (keeping conn, place_at all who.key conn there, is, refl)

kept_own : (all : List Conn) (who : ClientId) (conn : Conn) → slice_get all who.key ≡ Some conn → (bytes : List ℕ)
    → AreKept (map keeping all) who bytes → (bytes ≡ []) ⊎ (bytes ≡ conn.rest.items)
kept_own all who conn there bytes (inl none) = inl none
kept_own all who conn there bytes (inr kept) = inr (kept.3
    ∙ ap (λ (place : Keeping). place.bytes) (some_same kept.0 (keeping conn) (sym kept.1 ∙ place_at all who.key conn there)))

-- nothing is kept for who has no place, or in whose place another is, or nothing
pub none_there : (all : List Conn) (who : ClientId) → slice_get all who.key ≡ None → NoneKept (map keeping all) who
none_there all who none bytes (inl empty) = empty
none_there all who none bytes (inr kept) = absurd (none_some kept.0 (sym (no_place all who.key none) ∙ kept.1))

pub none_here : (all : List Conn) (who : ClientId) (conn : Conn) → slice_get all who.key ≡ Some conn → (IsPlaceOf who (keeping conn) → ⊥)
    → NoneKept (map keeping all) who
none_here all who conn there other bytes (inl empty) = empty
none_here all who conn there other bytes (inr kept) = absurd (other (subst (λ (place : Keeping). IsPlaceOf who place)
    (some_same kept.0 (keeping conn) (sym kept.1 ∙ place_at all who.key conn there)) kept.2))

pub none_kept : (all : List Conn) (who : ClientId) (conn : Conn) → slice_get all who.key ≡ Some conn → conn.rest.items ≡ []
    → NoneKept (map keeping all) who
none_kept all who conn there empty bytes kept = elim (kept_own all who conn there bytes kept) [
  | inl none ↦ none
  | inr own ↦ own ∙ empty
]

-- bytes are kept for a client
pub keeps_none : (bytes : List ℕ) (who : ClientId) (old new : List Keeping) → new ≡ old → KeepsFor bytes who old new
keeps_none bytes who old new same after kept = (after, subst (λ (places : List Keeping). AreKept places who after) same kept, inl refl)

pub keeps_from : (bytes : List ℕ) (who : ClientId) (old mid : Conns) (new : List Keeping) → mid ≡ old
    → KeepsFor bytes who (keepings mid) new → KeepsFor bytes who (keepings old) new
keeps_from bytes who old mid new same keeps = subst (λ (conns : Conns). KeepsFor bytes who (keepings conns) new) same keeps

pub keeps_first : (bytes : List ℕ) (who : ClientId) (old mid new : List Keeping) → KeepsFor bytes who old mid → new ≡ mid
    → KeepsFor bytes who old new
keeps_first bytes who old mid new keeps same = subst (λ (places : List Keeping). KeepsFor bytes who old places) (sym same) keeps

pub keeps_at : (bytes : List ℕ) (who : ClientId) (all : List Conn) (at : ℕ) (v v' : Conn)
    → (at ≡ who.key) × ((conn : Conn) × (slice_get all at ≡ Some conn) × IsPlaceOf who (keeping conn)) → v ≡ slice_index_or all at v
    → KeepsOn bytes (keeping v) (keeping v') → KeepsFor bytes who (map keeping all) (map keeping (slice_set all at v'))
keeps_at bytes who all at v v' there is keeps after kept =
    let same : v ≡ there.1.0 = got all at v there.1.0 there.1.1 is in
    let old_at : slice_get all who.key ≡ Some v =
    ap (λ (n : ℕ). slice_get all n) (sym there.0) ∙ there.1.1 ∙ ap (λ (c : Conn). Some c) (sym same) in
    let place : IsPlaceOf who (keeping v) = subst (λ (c : Conn). IsPlaceOf who (keeping c)) (sym same) there.1.2 in
    let new_at : slice_get (slice_set all at v') who.key ≡ Some v' =
    ap (λ (n : ℕ). slice_get (slice_set all at v') n) (sym there.0) ∙ set_place all at there.1.0 v' there.1.1 in
    elim (kept_own (slice_set all at v') who v' new_at after kept) [
      | inl none ↦ ([], inl refl, inl none)
      | inr own ↦ elim keeps [
        | inl stays ↦ (v.rest.items, own_kept all who v old_at place, inl (own ∙ ap (λ (k : Keeping). k.bytes) stays))
        | inr more ↦ (v.rest.items, own_kept all who v old_at place, inr (own ∙ ap (λ (k : Keeping). k.bytes) more))
      ]
    ]

-- what is behind the first so many is all that is left
pub all_rest : (bytes : List ℕ) (at : ℕ) → take (length bytes - at) (drop at bytes) ≡ drop at bytes
all_rest bytes at = take_all (length bytes - at) (drop at bytes) (let left = length-drop at bytes in omega (arith, left))

module _ {T : Type 0} (facts : TimelineFacts T) where
  -- nothing is heard
  pub kept_none : (places : List Keeping) (who : ClientId) (s s' : ClientsState T) → s' ≡ s → HearsKept facts places who s s'
  kept_none places who s s' same = ([], inl refl, hears_none facts who [] s s' (stays facts s s' same))

  pub behind_none : (places : List Keeping) (who : ClientId) (bytes : List ℕ) (s s' : ClientsState T) → s' ≡ s
      → HearsBehind facts places who bytes s s'
  behind_none places who bytes s s' same = ([], inl refl, hears_none facts who bytes s s' (stays facts s s' same))

  -- and then steps
  pub kept_then : (places : List Keeping) (who : ClientId) (s s1 s2 : ClientsState T) → HearsKept facts places who s s1 → Moved facts s1 s2
      → HearsKept facts places who s s2
  kept_then places who s s1 s2 hears moved = (hears.0, hears.1, hears_on facts who hears.0 s s1 s2 hears.2 moved)

  pub behind_then : (places : List Keeping) (who : ClientId) (bytes : List ℕ) (s s1 s2 : ClientsState T) → HearsBehind facts places who bytes s s1
      → s2 ≡ s1 → HearsBehind facts places who bytes s s2
  behind_then places who bytes s s1 s2 hears same =
      (hears.0, hears.1, hears_on facts who (hears.0 ++ bytes) s s1 s2 hears.2 (stays facts s1 s2 same))

  -- steps, and then it is heard
  pub behind_first : (places : List Keeping) (who : ClientId) (bytes : List ℕ) (s s1 s2 : ClientsState T) → Moved facts s s1
      → HearsBehind facts places who bytes s1 s2 → HearsBehind facts places who bytes s s2
  behind_first places who bytes s s1 s2 moved hears =
      (hears.0, hears.1, hears_first facts who (hears.0 ++ bytes) s s1 s2 moved hears.2)

  -- what is kept elsewhere is the same
  pub kept_as : (old new : List Keeping) (who : ClientId) (s s' : ClientsState T) → new ≡ old → HearsKept facts new who s s'
      → HearsKept facts old who s s'
  kept_as old new who s s' same hears = subst (λ (places : List Keeping). HearsKept facts places who s s') same hears

  pub kept_behind : (old new : List Keeping) (who : ClientId) (s s1 s2 : ClientsState T) → s1 ≡ s → new ≡ old → HearsKept facts new who s1 s2
      → HearsKept facts old who s s2
  kept_behind old new who s s1 s2 same places hears =
      subst (λ (x : ClientsState T). HearsKept facts old who x s2) same (kept_as old new who s1 s2 places hears)

  pub behind_as : (old new : List Keeping) (who : ClientId) (bytes : List ℕ) (s s' : ClientsState T) → new ≡ old
      → HearsBehind facts new who bytes s s' → HearsBehind facts old who bytes s s'
  behind_as old new who bytes s s' same hears = subst (λ (places : List Keeping). HearsBehind facts places who bytes s s') same hears

  -- what is kept is heard, as far as there is room
  pub hears_rest : (places : List Keeping) (who : ClientId) (bytes : List ℕ) (s s' : ClientsState T) → AreKept places who bytes
      → (heard : Option ℕ) → IfSome heard (λ n. Stepped facts (Does who (Heard (take n bytes))) s s') → IfNone heard (Moved facts s s')
      → HearsKept facts places who s s'
  hears_rest places who bytes s s' kept (Some n) some none = (bytes, kept, hears_one facts who bytes n s s' some)
  hears_rest places who bytes s s' kept None some none = (bytes, kept, hears_none facts who bytes s s' none)

  pub hears_same : (who : ClientId) (bytes more : List ℕ) (s s' : ClientsState T) → bytes ≡ more → HearsOf facts who bytes s s'
      → HearsOf facts who more s s'
  hears_same who bytes more s s' same hears = subst (λ (l : List ℕ). HearsOf facts who l s s') same hears

  -- the first of these bytes are heard, the others kept, and then what is kept is heard
  pub takes_then : (old new : List Keeping) (who : ClientId) (bytes rest : List ℕ) (count : ℕ) (s s1 s2 : ClientsState T)
      → TakesFirst facts old who bytes count s s1 → rest ≡ drop count bytes → KeepsFor rest who old new → HearsKept facts new who s1 s2
      → HearsBehind facts old who bytes s s2
  takes_then old new who bytes rest count s s1 s2 takes is keeps (after, kept, hears) =
      let k = keeps after kept in
      elim takes [
        | inl none ↦ (
          k.0,
          k.1,
          hears_first facts who (k.0 ++ bytes) s s1 s2 (stays facts s s1 none.1)
              (elim k.2 [
                | inl same ↦ hears_longer facts who k.0 bytes s1 s2 (hears_same who after k.0 s1 s2 same hears)
                | inr more ↦ hears_same who after (k.0 ++ bytes) s1 s2
                    (more ∙ ap (λ (l : List ℕ). k.0 ++ l) (is ∙ ap (λ (n : ℕ). drop n bytes) none.0)) hears
              ]),
        )
        | inr first ↦ (
          [],
          inl refl,
          elim first.1 [
            | inl stepped ↦ hears_more facts who bytes count s s1 s2 stepped
                (elim k.2 [
                  | inl same ↦ hears_longer facts who [] (drop count bytes) s1 s2 (hears_same who after [] s1 s2 (same ∙ first.0 k.0 k.1) hears)
                  | inr more ↦ hears_same who after (drop count bytes) s1 s2
                      (more ∙ ap (λ (l : List ℕ). l ++ rest) (first.0 k.0 k.1) ∙ is) hears
                ])
            | inr lost ↦ hears_first facts who bytes s s1 s2 lost.1
                (hears_longer facts who [] bytes s1 s2 (hears_same who after [] s1 s2
                (elim k.2 [
                  | inl same ↦ same ∙ first.0 k.0 k.1
                  | inr more ↦ more ∙ ap (λ (l : List ℕ). l ++ rest) (first.0 k.0 k.1) ∙ is
                      ∙ drop_all count bytes (subst (λ (n : ℕ). length bytes ≤ n) (sym lost.0) (at_most (length bytes)))
                ]) hears))
          ],
        )
      ]
    where
      at_most : (n : ℕ) → n ≤ n
      at_most n = omega arith
