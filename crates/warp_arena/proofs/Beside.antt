-- The nodes of an origin on both sides of a name.
use Rattle.std.proofs.Common.{◌≡◌, ◌≢◌, ℕ, ◌<◌, true, eqb, length, refl, sym, ap, ◌∙◌, subst, IsSome, IsSomeAnd}
use Rattle.std.specs.List.{AllByRecursion}
use Rattle.warp_tag.specs.Moment.{Moment}
use Rattle.warp_tag.specs.Table.{name_before}
use Rattle.warp_tag.specs.declared.entry.Entry.{Entry}
use Rattle.warp_tag.proofs.Lists.{All-both, All-weaker, All-filter, All-kept}
use Rattle.warp_arena.specs.declared.arena.Arena.TheInside.{Inside}
use Rattle.warp_arena.specs.declared.node.TheConstants.{NO_NODE}
use Rattle.warp_arena.specs.Changes.{IsPlace}
use Rattle.warp_arena.specs.Places.{Contents, entry_of, places_of}
use Rattle.warp_arena.specs.Shape.{IsWhole, IsAfter, Spells, contents_of, last_not_after, last_or, first_or, next_in, prev_in}
use Rattle.warp_arena.proofs.Rings.{IsChain-split, first_holds}
use Rattle.warp_arena.proofs.Tables.{places_of-members, last_of_places}
use Rattle.warp_arena.proofs.Shapes.{members_own}
use Rattle.warp_arena.proofs.Walks.{room_of, threads, used, owned, Listed-origin}
use Rattle.warp_arena.proofs.Reading.{places, all_named, entry_found}
use Rattle.warp_arena.proofs.Finding.{own_front, own_back, own_parts, node_of-at}

module _ (a : Inside) (w : IsWhole (threads a) a.used) (o : ℕ) (g : Moment) where
  -- where a walk along the origin's list stopped, as the last of the origin's nodes up to the name
  pub last_is : (v : Contents) (at : ℕ) → contents_of (threads a) a.used (room_of a) ≡ v → at ≡ last_not_after o g (places_of o v.places) → at ≡ last_or NO_NODE (own_front a w o g)
  last_is v at is s =
      s ∙ sym (last_of_places o g (threads a).entry (owned a o)
      ∙ ap (λ ps. last_not_after o g ps) (sym (places_of-members (threads a).entry o (used a)))
      ∙ ap (λ u. last_not_after o g (places_of o u.places)) is)

  -- each of the origin's nodes behind the name is after it
  all_after : AllByRecursion (λ i. IsAfter o g i (places a)) (own_back a w o g)
  all_after =
      let entry : ℕ → Entry = (threads a).entry in
      let later : ℕ → Type 0 = λ i. name_before o g (entry i) ≡ true in
      let Named : ℕ → Type 0 = λ i. IsSome (entry_of i (places a)) in
      let named : AllByRecursion Named (owned a o) = All-filter Named (λ i. eqb (entry i).origin o) (used a) (all_named entry (used a)) in
      let of_it : AllByRecursion (λ i. Named i × ((entry i).origin ≡ o)) (owned a o) =
      All-both Named (λ i. (entry i).origin ≡ o) (λ i. Named i × ((entry i).origin ≡ o)) (λ i n e. (n, e)) (owned a o) named (members_own entry o (used a)) in
      All-both (λ i. Named i × ((entry i).origin ≡ o)) later (λ i. IsAfter o g i (places a))
      (λ i n h. subst (λ x. IsSomeAnd x (λ e. (e.origin ≡ o) × (name_before o g e ≡ true))) (sym (entry_found a w i n.0)) (n.1, h)) (own_back a w o g)
      (All-filter (λ i. Named i × ((entry i).origin ≡ o)) (λ i. name_before o g (entry i)) (owned a o) of_it)
      (All-kept (λ i. name_before o g (entry i)) (owned a o))

  module _ (declared : o < length a.by_origin.items) (before : ℕ) (last : before ≡ last_or NO_NODE (own_front a w o g)) where
    pub before_below : IsPlace (length a.nodes.items) before
    before_below n = (node_of-at a w o g declared before last n).0

    -- the node after the last of those up to the name
    pub after_last : (next : ℕ) → next ≡ next_in ((threads a).own_ends o) (threads a).own_links before → next ≢ NO_NODE → IsAfter o g next (places a)
    after_last next e =
        let ends = (threads a).own_ends o in
        let links = (threads a).own_links in
        let is : next ≡ first_or (own_back a w o g) NO_NODE =
        e ∙ ap (next_in ends links) last
        ∙ (IsChain-split (next_in ends links) (prev_in ends links) NO_NODE (own_front a w o g) (own_back a w o g) NO_NODE
        (subst (Spells ends links) (own_parts a w o g) (Listed-origin a w o declared).chain)).0 in
        subst (λ i. i ≢ NO_NODE → IsAfter o g i (places a)) (sym is)
        (first_holds (λ i. i ≢ NO_NODE → IsAfter o g i (places a)) (own_back a w o g) NO_NODE
        (All-weaker (λ i. IsAfter o g i (places a)) (λ i. i ≢ NO_NODE → IsAfter o g i (places a)) (λ i h _. h) (own_back a w o g) all_after)
        (λ n. absurd (n refl)))
