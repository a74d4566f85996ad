-- What a walk along an origin's list says of a name.
use Rattle.std.proofs.Common.{◌≡◌, ◌≢◌, ℕ, ◌<◌, ◌≤◌, Bool, true, false, not, cond, eqb, List, [], ◌∷◌, ◌++◌, length, refl, sym, ap, ◌∙◌, subst, inl, inr, arith, map, filter, find, append_assoc, Some, None}
use Rattle.std.specs.List.{AllByRecursion}
use Rattle.std.specs.Option.{option_map}
use Rattle.std.proofs.lemmas.Bool.{ne_eqb}
use Rattle.std.proofs.lemmas.List.{map-append}
use Rattle.std.proofs.lemmas.Bool.Decides.{nat_tests}
use Rattle.warp_tag.specs.Moment.{Moment}
use Rattle.warp_tag.specs.Table.{name_before, has_name, IsTable}
use Rattle.warp_tag.specs.declared.entry.Entry.{Entry}
use Rattle.warp_tag.proofs.Lists.{All-weaker, All-left, All-right, All-kept, find_past, find_fails, find_filter}
use Rattle.warp_tag.proofs.Names.{before_not_named, before_unnamed}
use Rattle.warp_arena.specs.declared.arena.Arena.TheInside.{Inside}
use Rattle.warp_arena.specs.declared.node.TheConstants.{NO_NODE}
use Rattle.warp_arena.specs.Places.{Place, node_of}
use Rattle.warp_arena.specs.Shape.{IsWhole, place_at, last_or}
use Rattle.warp_arena.proofs.Rings.{IsOff, by_last, last_or-push}
use Rattle.warp_arena.proofs.Tables.{Precedes, IsTable-before, IsTable-members, All-unmap, All-map, places_of-members, sorted_parts, not_true}
use Rattle.warp_arena.proofs.Walks.{threads, used, owned, Listed-origin}
use Rattle.warp_arena.proofs.Reading.{places}

other_origin : (o : ℕ) (g : Moment) (e : Entry) → eqb e.origin o ≡ false → has_name o g e ≡ false
other_origin o g e h = grind (arith, nat_tests)

option_map_cond : {X Y : Type 0} (f : X → Y) (b : Bool) (x : X) → option_map f (cond b (Some x) None) ≡ cond b (Some (f x)) None
option_map_cond f true x = refl
option_map_cond f false x = refl

module _ (a : Inside) (w : IsWhole (threads a) a.used) (o : ℕ) (g : Moment) where
  -- the name is looked for among the origin's entries
  node_of-own : node_of o g (places a) ≡ option_map (λ (p : Place). p.node) (find (λ p. has_name o g p.entry) (map (place_at (threads a).entry) (owned a o)))
  node_of-own =
      ap (option_map (λ (p : Place). p.node))
      (find_filter (λ (p : Place). has_name o g p.entry) (λ p. eqb p.entry.origin o) (λ p h. other_origin o g p.entry h) (places a)
      ∙ ap (find (λ (p : Place). has_name o g p.entry)) (places_of-members (threads a).entry o (used a)))

  -- no entry is of an origin that the arena does not have
  pub none_declared : length a.by_origin.items ≤ o → node_of o g (places a) ≡ None
  none_declared h =
      ap (option_map (λ (p : Place). p.node))
      (find_fails (λ (p : Place). has_name o g p.entry) (places a)
      (All-map (λ p. has_name o g p.entry ≡ false) (place_at (threads a).entry) (used a)
      (All-weaker (λ i. ((threads a).entry i).origin < length a.by_origin.items) (λ i. has_name o g ((threads a).entry i) ≡ false)
      (λ i below. other_origin o g ((threads a).entry i) (ne_eqb ((threads a).entry i).origin o (λ e. omega arith))) (used a) w.shape.declared)))

  -- the origin's nodes up to the name, and those behind it
  abbrev pub own_front : List ℕ
  own_front = filter (λ i. not (name_before o g ((threads a).entry i))) (owned a o)

  abbrev pub own_back : List ℕ
  own_back = filter (λ i. name_before o g ((threads a).entry i)) (owned a o)

  own_sorted : IsTable (map (threads a).entry (owned a o))
  own_sorted = IsTable-members (threads a).entry o (used a) w.shape.sorted

  pub own_parts : owned a o ≡ own_front ++ own_back
  own_parts = sorted_parts o g (threads a).entry (owned a o) own_sorted

  abbrev test : Place → Bool
  test p = has_name o g p.entry

  none_behind : find test (map (place_at (threads a).entry) own_back) ≡ None
  none_behind =
      find_fails test (map (place_at (threads a).entry) own_back)
      (All-map (λ p. test p ≡ false) (place_at (threads a).entry) own_back
      (All-weaker (λ i. name_before o g ((threads a).entry i) ≡ true) (λ i. has_name o g ((threads a).entry i) ≡ false)
      (λ i h. before_not_named o g ((threads a).entry i) h) own_back (All-kept (λ i. name_before o g ((threads a).entry i)) (owned a o))))

  module _ (declared : o < length a.by_origin.items) (at : ℕ) (last : at ≡ last_or NO_NODE own_front) where
    -- the walk passed all
    pub node_of-none : at ≡ NO_NODE → node_of o g (places a) ≡ None
    node_of-none e =
        elim (by_last own_front) [
          | inl none ↦
              node_of-own
              ∙ ap (λ is. option_map (λ (p : Place). p.node) (find test (map (place_at (threads a).entry) is))) (own_parts ∙ ap (λ xs. xs ++ own_back) none)
              ∙ ap (option_map (λ (p : Place). p.node)) none_behind
          | inr some ↦
              let off = All-left (λ i. i ≢ NO_NODE) own_front own_back (subst (IsOff NO_NODE) own_parts (Listed-origin a w o declared).none) in
              absurd ((All-right (λ i. i ≢ NO_NODE) some.0 (some.1 ∷ []) (subst (IsOff NO_NODE) some.2 off)).0
              (sym (last ∙ ap (last_or NO_NODE) some.2 ∙ last_or-push NO_NODE some.0 some.1) ∙ e))
        ]

    -- the walk stopped at a node: the name is there or nowhere
    pub node_of-at : at ≢ NO_NODE → (at < length a.nodes.items) × (node_of o g (places a) ≡ cond (has_name o g ((threads a).entry at)) (Some at) None)
    node_of-at n =
        elim (by_last own_front) [
          | inl none ↦ absurd (n (last ∙ ap (last_or NO_NODE) none))
          | inr some ↦
              let entry : ℕ → Entry = (threads a).entry in
              let place : ℕ → Place = place_at entry in
              let k : ℕ = some.1 in
              let fs : List ℕ = some.0 in
              let here : k ≡ at = sym (last ∙ ap (last_or NO_NODE) some.2 ∙ last_or-push NO_NODE fs k) in
              let whole : owned a o ≡ fs ++ k ∷ own_back = own_parts ∙ ap (λ xs. xs ++ own_back) some.2 ∙ append_assoc fs (k ∷ []) own_back in
              let kept : not (name_before o g (entry k)) ≡ true =
              (All-right (λ i. not (name_before o g (entry i)) ≡ true) fs (k ∷ [])
              (subst (AllByRecursion (λ i. not (name_before o g (entry i)) ≡ true)) some.2 (All-kept (λ i. not (name_before o g (entry i))) (owned a o)))).0 in
              let through : name_before o g (entry k) ≡ false = not_true (name_before o g (entry k)) kept in
              let before : AllByRecursion (λ i. Precedes (entry i) (entry k)) fs =
              All-unmap (λ e. Precedes e (entry k)) entry fs (IsTable-before (map entry fs) (map entry own_back) (entry k)
              (subst IsTable (ap (map entry) whole ∙ map-append entry fs (k ∷ own_back)) own_sorted)) in
              let found : find test (map place (owned a o)) ≡ cond (has_name o g (entry k)) (Some (place k)) None =
              ap (λ is. find test (map place is)) whole
              ∙ ap (find test) (map-append place fs (k ∷ own_back))
              ∙ find_past test (map place fs) (place k ∷ map place own_back) (All-map (λ p. test p ≡ false) place fs
              (All-weaker (λ i. Precedes (entry i) (entry k)) (λ i. has_name o g (entry i) ≡ false) (λ i p. before_unnamed o g (entry i) (entry k) p through) fs before))
              ∙ ap (λ r. cond (has_name o g (entry k)) (Some (place k)) r) none_behind in (
                subst (λ j. j < length a.nodes.items) here
                    (All-right (λ i. i < length a.nodes.items) fs (k ∷ own_back) (subst (AllByRecursion (λ i. i < length a.nodes.items)) whole (Listed-origin a w o declared).below)).0,
                node_of-own ∙ ap (option_map (λ (p : Place). p.node)) found
                    ∙ option_map_cond (λ (p : Place). p.node) (has_name o g (entry k)) (place k)
                    ∙ ap (λ j. cond (has_name o g (entry j)) (Some j) None) here,
              )
        ]
