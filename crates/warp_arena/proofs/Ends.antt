-- A name that comes behind the last entry of all, and so behind the last one of its origin.
use Rattle.std.proofs.Common.{◌≡◌, ◌≢◌, ℕ, ◌<◌, true, cond, not, eqb, List, [], ◌∷◌, length, map, refl, sym, ap, ◌∙◌, subst, inl, inr, Some, None, IsSome}
use Rattle.std.specs.List.{AllByRecursion}
use Rattle.std.proofs.lemmas.Bool.{cases_eq}
use Rattle.std.proofs.lemmas.List.{map-append}
use Rattle.warp_tag.specs.Moment.{Moment}
use Rattle.warp_tag.specs.Table.{name_before, fresh, IsTable}
use Rattle.warp_tag.specs.declared.entry.Entry.{Entry}
use Rattle.warp_tag.proofs.Lists.{All-weaker, All-append, All-right, All-filter, same_some}
use Rattle.warp_tag.proofs.Names.{ahead_not_before, ahead_not_named, name_before_trans}
use Rattle.warp_arena.specs.declared.arena.Arena.TheInside.{Inside}
use Rattle.warp_arena.specs.declared.node.TheConstants.{NO_NODE}
use Rattle.warp_arena.specs.Changes.{IsPassed, IsPlace}
use Rattle.warp_arena.specs.Places.{Contents, IsBehindAll, entry_of, node_of, places_of}
use Rattle.warp_arena.specs.Shape.{IsWhole, contents_of, entry_at, last_or, last_not_after}
use Rattle.warp_arena.proofs.Rings.{IsOff, by_last, last_holds, last_or-push}
use Rattle.warp_arena.proofs.Tables.{Precedes, IsTable-before, All-unmap, places_of-members, last_of_places}
use Rattle.warp_arena.proofs.Walks.{room_of, Stands, threads, used, owned, Listed-last, Listed-tags, Listed-origin, walk_start, walk_below, stops}
use Rattle.warp_arena.proofs.Reading.{places, found, entry_found, used_found_no_end}
use Rattle.warp_arena.proofs.Finding.{node_of-none, node_of-at}
use Rattle.warp_arena.proofs.Beside.{last_is}

module _ (a : Inside) (w : IsWhole (threads a) a.used) (o : ℕ) (g : Moment) where
  at_end : Stands (λ i. name_before o g (entry_at a.nodes.items i)) (used a) a.ends.prev
  at_end = walk_start a.nodes.items (λ n. n.by_tag) a.ends (used a) (Listed-tags a w) (name_before o g) a.ends.prev refl

  pub end_below : IsPlace (length a.nodes.items) a.ends.prev
  end_below = walk_below a.nodes.items (λ n. n.by_tag) a.ends (used a) (Listed-tags a w) (name_before o g) a.ends.prev at_end

  module _ (p : IsPassed o g a.nodes.items a.ends.prev) where
    abbrev entry : ℕ → Entry
    entry = (threads a).entry

    all_passed : AllByRecursion (IsPassed o g a.nodes.items) (used a)
    all_passed =
        let P : ℕ → Type 0 = IsPassed o g a.nodes.items in
        elim (by_last (used a)) [
          | inl none ↦ subst (AllByRecursion P) (sym none) tt
          | inr some ↦
              let fs : List ℕ = some.0 in
              let k : ℕ = some.1 in
              let l = Listed-tags a w in
              let here : a.ends.prev ≡ k =
              Listed-last (length a.nodes.items) a.ends (threads a).links (used a) l ∙ ap (last_or NO_NODE) some.2 ∙ last_or-push NO_NODE fs k in
              let node : k ≢ NO_NODE = (All-right (λ i. i ≢ NO_NODE) fs (k ∷ []) (subst (IsOff NO_NODE) some.2 l.none)).0 in
              let last : name_before (entry k).origin (entry k).tag (fresh o g) ≡ true = subst P here p node in
              let before : AllByRecursion (λ i. Precedes (entry i) (entry k)) fs =
              All-unmap (λ e. Precedes e (entry k)) entry fs (IsTable-before (map entry fs) [] (entry k)
              (subst IsTable (ap (map entry) some.2 ∙ map-append entry fs (k ∷ [])) w.shape.sorted)) in
              subst (AllByRecursion P) (sym some.2) (All-append P fs (k ∷ [])
              (All-weaker (λ i. Precedes (entry i) (entry k)) P (λ i q _. name_before_trans (entry i).origin (entry i).tag (entry k) (fresh o g) q last) fs before)
              ((λ _. last), tt))
        ]

    -- so the name is behind each entry
    pub behind_all : (v : Contents) → contents_of (threads a) a.used (room_of a) ≡ v → IsBehindAll o g v.places
    behind_all v is i e h =
        let P : ℕ → Type 0 = IsPassed o g a.nodes.items in
        let here : entry_of i (places a) ≡ Some e = ap (λ u. entry_of i u.places) is ∙ h in
        let some : IsSome (entry_of i (places a)) = subst IsSome (sym here) refl in
        let f = found a w i some in
        let at : P i = (All-right P f.front (i ∷ f.back) (subst (AllByRecursion P) f.parts all_passed)).0 in
        subst (λ (d : Entry). name_before d.origin d.tag (fresh o g) ≡ true) (same_some _ _ (sym (entry_found a w i some) ∙ here))
        (at (used_found_no_end a w i some))

    -- the last one of the origin is passed too
    pub own_passed : o < length a.by_origin.items → (at : ℕ) → at ≡ ((threads a).own_ends o).prev → IsPassed o g a.nodes.items at
    own_passed declared at e =
        let P : ℕ → Type 0 = IsPassed o g a.nodes.items in
        subst P (sym (e ∙ Listed-last (length a.nodes.items) ((threads a).own_ends o) (threads a).own_links (owned a o) (Listed-origin a w o declared)))
        (last_holds P NO_NODE (owned a o) (λ n. absurd (n refl)) (All-filter P (λ i. eqb (entry i).origin o) (used a) all_passed))

  module _ (v : Contents) (is : contents_of (threads a) a.used (room_of a) ≡ v) where
    pub end_last : IsPassed o g a.nodes.items a.ends.prev → a.ends.prev ≡ last_not_after o g v.places
    end_last p =
        stops a.nodes.items (λ n. n.by_tag) a.ends (used a) (Listed-tags a w) (name_before o g) a.ends.prev at_end
        (λ n. ap not (ahead_not_before o g (entry_at a.nodes.items a.ends.prev) (p n)))
        ∙ last_of_places o g (threads a).entry (used a)
        ∙ ap (λ u. last_not_after o g u.places) is

  module _ (declared : o < length a.by_origin.items) (at : ℕ) (at_is : at ≡ ((threads a).own_ends o).prev) where
    at_own_end : Stands (λ i. name_before o g (entry_at a.nodes.items i)) (owned a o) at
    at_own_end = walk_start a.nodes.items (λ n. n.of_origin) ((threads a).own_ends o) (owned a o) (Listed-origin a w o declared) (name_before o g) at at_is

    module _ (v : Contents) (is : contents_of (threads a) a.used (room_of a) ≡ v) (p : IsPassed o g a.nodes.items at) where
      pub own_end_last : at ≡ last_not_after o g (places_of o v.places)
      own_end_last =
          stops a.nodes.items (λ n. n.of_origin) ((threads a).own_ends o) (owned a o) (Listed-origin a w o declared) (name_before o g) at at_own_end
          (λ n. ap not (ahead_not_before o g (entry_at a.nodes.items at) (p n)))
          ∙ last_of_places o g (threads a).entry (owned a o)
          ∙ ap (λ ps. last_not_after o g ps) (sym (places_of-members (threads a).entry o (used a)))
          ∙ ap (λ u. last_not_after o g (places_of o u.places)) is

      pub absent : node_of o g v.places ≡ None
      absent =
          let s = last_is a w o g v at is own_end_last in
          sym (ap (λ u. node_of o g u.places) is)
          ∙ elim (cases_eq at NO_NODE) [
            | inl none ↦ node_of-none a w o g declared at s none
            | inr some ↦
                (node_of-at a w o g declared at s some).1
                ∙ ap (λ b. cond b (Some at) None) (ahead_not_named o g (entry_at a.nodes.items at) (p some))
          ]
