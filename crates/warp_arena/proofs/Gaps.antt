-- The places between which a name belongs.
use Rattle.std.proofs.Common.{◌≡◌, ℕ, ◌<◌, not, List, length, refl, sym, ap, ◌∙◌, subst, map, filter}
use Rattle.warp_tag.specs.Moment.{Moment}
use Rattle.warp_tag.specs.Table.{name_before, IsTable}
use Rattle.warp_tag.specs.declared.entry.Entry.{Entry}
use Rattle.warp_tag.proofs.Lists.{All-weaker, All-filter}
use Rattle.warp_arena.specs.declared.arena.Arena.TheInside.{Inside}
use Rattle.warp_arena.specs.declared.node.Links.{Links}
use Rattle.warp_arena.specs.declared.node.TheConstants.{NO_NODE}
use Rattle.warp_arena.specs.Changes.{IsPlace}
use Rattle.warp_arena.specs.Places.{Contents, places_of}
use Rattle.warp_arena.specs.Shape.{IsWhole, Spells, contents_of, place_at, last_or, last_not_after, first_after, next_in, prev_in}
use Rattle.warp_arena.proofs.Rings.{IsChain-split, last_holds}
use Rattle.warp_arena.proofs.Tables.{IsTable-members, places_of-members, sorted_parts, last_of_places, first_of_places}
use Rattle.warp_arena.proofs.Listing.{Listed}
use Rattle.warp_arena.proofs.Walks.{room_of, threads, used, owned, Listed-tags, Listed-origin}

module _ (size : ℕ) (ends : Links) (links : ℕ → Links) (entry : ℕ → Entry) (is : List ℕ) (l : Listed size ends links is) (sorted : IsTable (map entry is)) (o : ℕ) (g : Moment)
    (before : ℕ) (last : before ≡ last_not_after o g (map (place_at entry) is))
  where
    front : List ℕ
    front = filter (λ i. not (name_before o g (entry i))) is

    is_last : before ≡ last_or NO_NODE front
    unfolding front
    is_last = last ∙ sym (last_of_places o g entry is)

    place_below : IsPlace size before
    unfolding front
    place_below =
        subst (IsPlace size) (sym is_last)
        (last_holds (IsPlace size) NO_NODE front (λ n. absurd (n refl))
        (All-weaker (λ i. i < size) (IsPlace size) (λ i h _. h) front (All-filter (λ i. i < size) (λ i. not (name_before o g (entry i))) is l.below)))

    place_after : next_in ends links before ≡ first_after o g (map (place_at entry) is)
    unfolding front
    place_after =
        ap (next_in ends links) is_last
        ∙ (IsChain-split (next_in ends links) (prev_in ends links) NO_NODE front (filter (λ i. name_before o g (entry i)) is) NO_NODE
        (subst (Spells ends links) (sorted_parts o g entry is sorted) l.chain)).0
        ∙ first_of_places o g entry is

module _ (a : Inside) (w : IsWhole (threads a) a.used) (o : ℕ) (g : Moment) (v : Contents) (is : contents_of (threads a) a.used (room_of a) ≡ v) where
  module _ (before : ℕ) (last : before ≡ last_not_after o g v.places) where
    tag_last : before ≡ last_not_after o g (map (place_at (threads a).entry) (used a))
    tag_last = last ∙ ap (λ u. last_not_after o g u.places) (sym is)

    pub tag_below : IsPlace (length a.nodes.items) before
    tag_below = place_below (length a.nodes.items) a.ends (threads a).links (threads a).entry (used a) (Listed-tags a w) w.shape.sorted o g before tag_last

    -- what the tag list has after the place
    pub tag_after : next_in a.ends (threads a).links before ≡ first_after o g v.places
    tag_after =
        place_after (length a.nodes.items) a.ends (threads a).links (threads a).entry (used a) (Listed-tags a w) w.shape.sorted o g before tag_last
        ∙ ap (λ u. first_after o g u.places) is

  module _ (declared : o < length a.by_origin.items) (before : ℕ) (last : before ≡ last_not_after o g (places_of o v.places)) where
    own_places : places_of o (map (place_at (threads a).entry) (used a)) ≡ map (place_at (threads a).entry) (owned a o)
    own_places = places_of-members (threads a).entry o (used a)

    own_last : before ≡ last_not_after o g (map (place_at (threads a).entry) (owned a o))
    own_last = last ∙ ap (λ u. last_not_after o g (places_of o u.places)) (sym is) ∙ ap (λ ps. last_not_after o g ps) own_places

    own_sorted : IsTable (map (threads a).entry (owned a o))
    own_sorted = IsTable-members (threads a).entry o (used a) w.shape.sorted

    pub own_below : IsPlace (length a.nodes.items) before
    own_below =
        place_below (length a.nodes.items) ((threads a).own_ends o) (threads a).own_links (threads a).entry (owned a o) (Listed-origin a w o declared) own_sorted o g before own_last

    -- what the origin's list has after the place
    pub own_after : next_in ((threads a).own_ends o) (threads a).own_links before ≡ first_after o g (places_of o v.places)
    own_after =
        place_after (length a.nodes.items) ((threads a).own_ends o) (threads a).own_links (threads a).entry (owned a o) (Listed-origin a w o declared) own_sorted o g before own_last
        ∙ ap (λ ps. first_after o g ps) (sym own_places)
        ∙ ap (λ u. first_after o g (places_of o u.places)) is
