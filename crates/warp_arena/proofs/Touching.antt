-- The nodes that origins touched last: where a walk may start, and the arena after one is touched.
use Rattle.std.proofs.Common.{◌≡◌, ◌≢◌, ℕ, ◌<◌, true, eqb, List, [], ◌∷◌, ◌++◌, length, refl, sym, ap, ◌∙◌, subst, inl, inr, arith, map, get_or, set, append_assoc, Option, Some, None, IsSome, IsSomeAnd}
use Rattle.std.specs.List.{AllByRecursion}
use Rattle.std.proofs.lemmas.Bool.{cases_eq}
use Rattle.std.proofs.lemmas.List.{length-set, map-append}
use Rattle.warp_tag.specs.Moment.{Moment}
use Rattle.warp_tag.specs.Table.{name_before, IsTable}
use Rattle.warp_tag.specs.declared.entry.Entry.{Entry}
use Rattle.warp_tag.proofs.Lists.{All-weaker, All-right, All-filter}
use Rattle.warp_tag.proofs.Names.{name_before_trans}
use Rattle.warp_arena.specs.declared.arena.Arena.TheInside.{Inside}
use Rattle.warp_arena.specs.declared.node.Node.{Node}
use Rattle.warp_arena.specs.declared.node.Origin.{Origin}
use Rattle.warp_arena.specs.declared.node.TheConstants.{NO_NODE}
use Rattle.warp_arena.specs.Places.{entry_of}
use Rattle.warp_arena.specs.Shape.{IsWhole, IsAfter, IsBehind, IsOneOf, Spells, threads_of, node_at, count_of, members, no_origin}
use Rattle.warp_arena.proofs.Rings.{All-at, count_of-append, count_of-here, last_or-push}
use Rattle.warp_arena.proofs.Tables.{Precedes, All-unmap, IsTable-members, IsTable-rest}
use Rattle.warp_arena.proofs.Shapes.{members-append, members_here, members_own}
use Rattle.warp_arena.proofs.Listing.{each_origin}
use Rattle.warp_arena.proofs.Walks.{Stands, threads, used, owned, Listed-tags, Listed-origin, node_read, origin_read, walk_start}
use Rattle.warp_arena.proofs.Reading.{places, all_named, found, used_found_below, entry_found}

-- ---- where a walk may start

-- behind a node that is after a name, all are
stands_at : (o : ℕ) (g : Moment) (entry : ℕ → Entry) (is front back : List ℕ) (at : ℕ) → is ≡ front ++ at ∷ back → IsTable (map entry is) → name_before o g (entry at) ≡ true → Stands (λ i. name_before o g (entry i)) is at
stands_at o g entry is front back at parts sorted after =
    let rest : IsTable (map entry (at ∷ back)) =
    IsTable-rest (map entry front) (map entry (at ∷ back)) (subst IsTable (ap (map entry) parts ∙ map-append entry front (at ∷ back)) sorted) in
    record {
      front = front ++ at ∷ [];
      back = back;
      parts = parts ∙ sym (append_assoc front (at ∷ []) back);
      last = sym (last_or-push NO_NODE front at);
      past =
          All-weaker (λ j. Precedes (entry at) (entry j)) (λ j. name_before o g (entry j) ≡ true)
          (λ j p. name_before_trans o g (entry at) (entry j) after p) back (All-unmap (λ e. Precedes (entry at) e) entry back rest.0);
    }

-- the list of a node's origin, split at the node
own_parts : (entry : ℕ → Entry) (o i : ℕ) (is front back : List ℕ) → is ≡ front ++ i ∷ back → (entry i).origin ≡ o → members entry o is ≡ members entry o front ++ i ∷ members entry o back
own_parts entry o i is front back parts is_own =
    ap (members entry o) parts ∙ members-append entry o front (i ∷ back)
    ∙ ap (λ js. members entry o front ++ js) (members_here entry o i back is_own)

some_of : (o : Option Entry) (P : Entry → Type 0) → IsSomeAnd o P → IsSome o
some_of None P h = absurd h
some_of (Some e) P h = refl

module _ (a : Inside) (w : IsWhole (threads a) a.used) (o : ℕ) (g : Moment) (at : ℕ) where
  abbrev entry : ℕ → Entry
  entry = (threads a).entry

  abbrev later : ℕ → Type 0
  later i = name_before o g (entry i) ≡ true

  named : IsAfter o g at (places a) → IsSome (entry_of at (places a))
  named h = some_of (entry_of at (places a)) (λ e. (e.origin ≡ o) × (name_before o g e ≡ true)) h

  after_entry : IsAfter o g at (places a) → ((entry at).origin ≡ o) × later at
  after_entry h = subst (λ x. IsSomeAnd x (λ e. (e.origin ≡ o) × (name_before o g e ≡ true))) (entry_found a w at (named h)) h

  behind_named : (x : Option Entry) → IsSomeAnd x (λ e. name_before o g e ≡ true) → IsSome x
  behind_named None h = absurd h
  behind_named (Some e) h = refl

  behind_entry : IsBehind o g at (places a) → later at
  behind_entry h = subst (λ x. IsSomeAnd x (λ e. name_before o g e ≡ true)) (entry_found a w at (behind_named (entry_of at (places a)) h)) h

  -- a walk along the tag list
  pub starts_by_tag : (at ≢ a.ends.prev → IsBehind o g at (places a)) → Stands (λ i. name_before o g (entry i)) (used a) at
  starts_by_tag h =
      elim (cases_eq at a.ends.prev) [
        | inl same ↦ walk_start a.nodes.items (λ n. n.by_tag) a.ends (used a) (Listed-tags a w) (name_before o g) at same
        | inr other ↦
            let f = found a w at (behind_named (entry_of at (places a)) (h other)) in
            stands_at o g entry (used a) f.front f.back at f.parts w.shape.sorted (behind_entry (h other))
      ]

  -- a walk along the origin's list
  pub starts_of_origin : o < length a.by_origin.items → (end : ℕ) → end ≡ ((threads a).own_ends o).prev → (at ≢ end → IsAfter o g at (places a)) → Stands (λ i. name_before o g (entry i)) (owned a o) at
  starts_of_origin declared end e h =
      elim (cases_eq at end) [
        | inl same ↦ walk_start a.nodes.items (λ n. n.of_origin) ((threads a).own_ends o) (owned a o) (Listed-origin a w o declared) (name_before o g) at (same ∙ e)
        | inr other ↦
            let f = found a w at (named (h other)) in
            let r = after_entry (h other) in
            stands_at o g entry (owned a o) (members entry o f.front) (members entry o f.back) at
            (own_parts entry o at (used a) f.front f.back f.parts r.0) (IsTable-members entry o (used a) w.shape.sorted) r.1
      ]

-- what a read of an origin says of the node that it touched last
module _ (a : Inside) (w : IsWhole (threads a) a.used) (o : ℕ) (declared : o < length a.by_origin.items) (own : Origin) (read : own ≡ get_or a.by_origin.items o no_origin) (node : own.touched ≢ NO_NODE) where
  is_owned : 0 < count_of own.touched (owned a o)
  is_owned = subst (λ n. n.touched ≢ NO_NODE → 0 < count_of n.touched (owned a o)) (sym read) (w.shape.touched o declared) node

  pub touched_below : own.touched < length a.nodes.items
  touched_below = All-at (λ i. i < length a.nodes.items) (owned a o) own.touched (Listed-origin a w o declared).below is_owned

  touched_named : IsSome (entry_of own.touched (places a))
  touched_named =
      All-at (λ i. IsSome (entry_of i (places a))) (owned a o) own.touched
      (All-filter (λ i. IsSome (entry_of i (places a))) (λ i. eqb ((threads a).entry i).origin o) (used a) (all_named (threads a).entry (used a))) is_owned

  pub touched_after : (g : Moment) (n : Node) → n ≡ node_at a.nodes.items own.touched → name_before o g n.entry ≡ true → IsAfter o g own.touched (places a)
  touched_after g n is after =
      subst (λ x. IsSomeAnd x (λ e. (e.origin ≡ o) × (name_before o g e ≡ true))) (sym (entry_found a w own.touched touched_named)) (
        All-at (λ i. ((threads a).entry i).origin ≡ o) (owned a o) own.touched (members_own (threads a).entry o (used a)) is_owned,
        ap (λ m. name_before o g m.entry) (sym is) ∙ after,
      )

-- ---- after a node is touched

module _ (a : Inside) (w : IsWhole (threads a) a.used) (i : ℕ) (h : IsSome (entry_of i (places a))) where
  found_origin : ((threads a).entry i).origin < length a.by_origin.items
  found_origin =
      let f = found a w i h in
      let D : ℕ → Type 0 = λ j. ((threads a).entry j).origin < length a.by_origin.items in
      (All-right D f.front (i ∷ f.back) (subst (AllByRecursion D) f.parts w.shape.declared)).0

  is_member : (o : ℕ) → ((threads a).entry i).origin ≡ o → IsOneOf (owned a o) i
  is_member o is_own =
      let f = found a w i h in
      let entry : ℕ → Entry = (threads a).entry in
      let ms : List ℕ = members entry o f.front in
      let ns : List ℕ = members entry o f.back in
      subst (λ is. IsOneOf is i) (sym (own_parts entry o i (used a) f.front f.back f.parts is_own))
      (λ _. omega (arith, count_of-append i ms (i ∷ ns), count_of-here i ns))

  -- an origin that touched the node, one of its own
  origin_touched : (o : ℕ) → ((threads a).entry i).origin ≡ o → (own : Origin) → own ≡ get_or a.by_origin.items o no_origin → IsWhole (threads_of a.nodes.items (set a.by_origin.items o (record { ends = own.ends; touched = i })) a.ends a.free) a.used
  origin_touched o is_own own read =
      let t = threads a in
      let s = w.shape in
      let new : Origin = record { ends = own.ends; touched = i } in
      let declared : o < length a.by_origin.items = subst (λ q. q < length a.by_origin.items) is_own found_origin in
      record {
        fits = w.fits;
        shape = record {
          small = s.small;
          sorted = s.sorted;
          declared = subst (λ n. AllByRecursion (λ j. (t.entry j).origin < n) (used a)) (sym (length-set a.by_origin.items o new)) s.declared;
          spelled = s.spelled;
          own =
              each_origin a.by_origin.items o new (λ n q. Spells n.ends t.own_links (owned a q)) declared
              (subst (λ n. Spells n.ends t.own_links (owned a o)) (sym read) (s.own o declared)) (λ q _ below. s.own q below);
          touched = each_origin a.by_origin.items o new (λ n q. IsOneOf (owned a q) n.touched) declared (is_member o is_own) (λ q _ below. s.touched q below);
          free = s.free;
          once = s.once;
        };
      }

  module _ (j : ℕ) (same : j ≡ i) (n : Node) (read : n ≡ get_or a.nodes.items j n) (o : ℕ) (o_is : o ≡ n.entry.origin) where
    is_read : ((threads a).entry i).origin ≡ o
    is_read =
        ap (λ (m : Node). m.entry.origin) (sym (node_read a.nodes.items i n (used_found_below a w i h) (subst (λ k. n ≡ get_or a.nodes.items k n) same read)))
        ∙ sym o_is

    pub read_declared : o < length a.by_origin.items
    read_declared = subst (λ q. q < length a.by_origin.items) is_read found_origin

    pub whole_touched : (own : Origin) → own ≡ get_or a.by_origin.items o own → IsWhole (threads_of a.nodes.items (set a.by_origin.items o (record { ends = own.ends; touched = j })) a.ends a.free) a.used
    whole_touched own is_own =
        subst (λ k. IsWhole (threads_of a.nodes.items (set a.by_origin.items o (record { ends = own.ends; touched = k })) a.ends a.free) a.used) (sym same)
        (origin_touched o is_read own (origin_read a.by_origin.items o own read_declared is_own))
