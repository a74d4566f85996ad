-- The shape of an arena after a node came into its lists.
use Rattle.std.proofs.Common.{◌≡◌, ◌≢◌, ℕ, ◌+◌, ◌<◌, true, false, cond, eqb, ltb, List, ◌∷◌, ◌++◌, length, sym, ap, ◌∙◌, subst, arith, map, get_or, set, Option, ℤ}
use Rattle.std.specs.List.{AllByRecursion}
use Rattle.std.proofs.lemmas.List.{map-append, length-set}
use Rattle.warp_tag.specs.Moment.{Moment}
use Rattle.warp_tag.specs.Table.{name_before, has_name, IsTable}
use Rattle.warp_tag.proofs.Lists.{All-both, All-weaker, All-append, All-left, All-right, All-filter}
use Rattle.warp_tag.proofs.Names.{else_ahead}
use Rattle.warp_arena.specs.declared.node.Links.{Links}
use Rattle.warp_arena.specs.declared.node.Node.{Node}
use Rattle.warp_arena.specs.declared.node.Origin.{Origin}
use Rattle.warp_arena.specs.declared.node.TheConstants.{NO_NODE}
use Rattle.warp_arena.specs.Places.{named}
use Rattle.warp_arena.specs.Changes.{Threaded}
use Rattle.warp_arena.specs.Shape.{IsArena, Spells, threads_of, count_of, members, entry_at, by_tag, of_origin, IsPath, last_or, next_in, free_ends, IsOneOf, no_origin}
use Rattle.warp_arena.proofs.Rings.{IsOff, IsSame, All-from_in, All-at, IsPath-from, count_of-here, count_of-append}
use Rattle.warp_arena.proofs.Tables.{Precedes, All-map, IsTable-insert, map_agree}
use Rattle.warp_arena.proofs.Shapes.{unused_apart, none_unused, unused_off, members_agree, members-append, members_here, members_past, members_not, kept_others}
use Rattle.warp_arena.proofs.Listing.{Listed, next_in-at, kept_next, Spells-frame, Spells-insert, Keeps-insert, each_origin}
use Rattle.warp_arena.proofs.Walks.{Listed-used, Listed-own}

module _ (old new : List Node) (own : List Origin) (ends ends' e' : Links) (free o x : ℕ) (g : Moment) (v : Option (ℕ × ℤ)) (xs ys fs : List ℕ)
    (shape : IsArena (threads_of old own ends free) (xs ++ ys) (x ∷ fs))
    (change : Threaded old new ends ends' (get_or own o no_origin).ends e' (last_or NO_NODE xs) (last_or NO_NODE (members (entry_at old) o xs)) x (named o g v))
    (declared : o < length own)
  where
    came_off : IsOff x (xs ++ ys)
    came_off = unused_off (threads_of old own ends free) (xs ++ ys) (x ∷ fs) shape x (omega (arith, count_of-here x fs))

    came_not_none : x ≢ NO_NODE
    came_not_none = (none_unused (threads_of old own ends free) (xs ++ ys) (x ∷ fs) shape).0

    same_entries : (is : List ℕ) → IsOff x is → AllByRecursion (λ i. entry_at new i ≡ entry_at old i) is
    same_entries is off = All-weaker (λ i. i ≢ x) (λ i. entry_at new i ≡ entry_at old i) change.entries is off

    entries_insert : map (entry_at new) (xs ++ x ∷ ys) ≡ map (entry_at old) xs ++ named o g v ∷ map (entry_at old) ys
    entries_insert =
        map-append (entry_at new) xs (x ∷ ys)
        ∙ ap (λ es. es ++ entry_at new x ∷ map (entry_at new) ys) (map_agree (entry_at old) (entry_at new) xs (same_entries xs (All-left (λ i. i ≢ x) xs ys came_off)))
        ∙ ap (λ e. map (entry_at old) xs ++ e ∷ map (entry_at new) ys) change.here
        ∙ ap (λ es. map (entry_at old) xs ++ named o g v ∷ es) (map_agree (entry_at old) (entry_at new) ys (same_entries ys (All-right (λ i. i ≢ x) xs ys came_off)))

    sorted_insert : AllByRecursion (λ i. name_before o g (entry_at old i) ≡ false) xs → AllByRecursion (λ i. has_name o g (entry_at old i) ≡ false) xs → AllByRecursion (λ i. name_before o g (entry_at old i) ≡ true) ys → IsTable (map (entry_at new) (xs ++ x ∷ ys))
    sorted_insert through absent past =
        subst IsTable (sym entries_insert)
        (IsTable-insert (map (entry_at old) xs) (map (entry_at old) ys) (named o g v)
        (subst IsTable (map-append (entry_at old) xs ys) shape.sorted)
        (All-map (λ e. Precedes e (named o g v)) (entry_at old) xs
        (All-both (λ i. name_before o g (entry_at old i) ≡ false) (λ i. has_name o g (entry_at old i) ≡ false) (λ i. Precedes (entry_at old i) (named o g v))
        (λ i p q. else_ahead o g (entry_at old i) p q) xs through absent))
        (All-map (λ e. Precedes (named o g v) e) (entry_at old) ys past))

    declared_insert : AllByRecursion (λ i. (entry_at new i).origin < length own) (xs ++ x ∷ ys)
    declared_insert =
        let kept : (is : List ℕ) → IsOff x is → AllByRecursion (λ i. (entry_at old i).origin < length own) is → AllByRecursion (λ i. (entry_at new i).origin < length own) is =
        λ is off h. All-both (λ i. entry_at new i ≡ entry_at old i) (λ i. (entry_at old i).origin < length own) (λ i. (entry_at new i).origin < length own)
        (λ i p q. subst (λ e. e.origin < length own) (sym p) q) is (same_entries is off) h in
        All-append (λ i. (entry_at new i).origin < length own) xs (x ∷ ys)
        (kept xs (All-left (λ i. i ≢ x) xs ys came_off) (All-left (λ i. (entry_at old i).origin < length own) xs ys shape.declared)) (
          subst (λ e. e.origin < length own) (sym change.here) declared,
          kept ys (All-right (λ i. i ≢ x) xs ys came_off) (All-right (λ i. (entry_at old i).origin < length own) xs ys shape.declared),
        )

    tags : Listed (length old) ends (by_tag old) (xs ++ ys)
    tags = Listed-used (threads_of old own ends free) (xs ++ ys) (x ∷ fs) shape

    -- the list of the node's origin, before
    owns : Listed (length old) (get_or own o no_origin).ends (of_origin old) (members (entry_at old) o xs ++ members (entry_at old) o ys)
    owns =
        subst (Listed (length old) (get_or own o no_origin).ends (of_origin old)) (members-append (entry_at old) o xs ys)
        (Listed-own (threads_of old own ends free) (xs ++ ys) (x ∷ fs) shape o declared)

    off_members : (i : ℕ) → IsOff i (members (entry_at old) o (xs ++ ys)) → IsOff i (members (entry_at old) o xs ++ members (entry_at old) o ys)
    off_members i off = subst (IsOff i) (members-append (entry_at old) o xs ys) off

    -- and after
    own_members : members (entry_at new) o (xs ++ x ∷ ys) ≡ members (entry_at old) o xs ++ x ∷ members (entry_at old) o ys
    own_members =
        let ms : List ℕ = members (entry_at old) o xs in
        members-append (entry_at new) o xs (x ∷ ys)
        ∙ ap (λ is. is ++ members (entry_at new) o (x ∷ ys)) (members_agree (entry_at old) (entry_at new) o xs (same_entries xs (All-left (λ i. i ≢ x) xs ys came_off)))
        ∙ ap (λ is. ms ++ is) (members_here (entry_at new) o x ys (ap (λ d. d.origin) change.here))
        ∙ ap (λ is. ms ++ x ∷ is) (members_agree (entry_at old) (entry_at new) o ys (same_entries ys (All-right (λ i. i ≢ x) xs ys came_off)))

    own_insert : Spells e' (of_origin new) (members (entry_at new) o (xs ++ x ∷ ys))
    own_insert =
        let ms : List ℕ = members (entry_at old) o xs in
        let ns : List ℕ = members (entry_at old) o ys in
        subst (Spells e' (of_origin new)) (sym own_members)
        (Spells-insert (length old) (get_or own o no_origin).ends e' (of_origin old) (of_origin new) ms ns x owns change.owns came_not_none
        (off_members x (All-filter (λ i. i ≢ x) (λ i. eqb (entry_at old i).origin o) (xs ++ ys) came_off)))

    -- the node that came in is one of its origin's
    own_touched : IsOneOf (members (entry_at new) o (xs ++ x ∷ ys)) x
    own_touched =
        let ms : List ℕ = members (entry_at old) o xs in
        let ns : List ℕ = members (entry_at old) o ys in
        subst (λ is. IsOneOf is x) (sym own_members) (λ _. omega (arith, count_of-append x ms (x ∷ ns), count_of-here x ns))

    -- the list of another origin
    other_members : (q : ℕ) → q ≢ o → members (entry_at new) q (xs ++ x ∷ ys) ≡ members (entry_at old) q (xs ++ ys)
    other_members q n =
        members-append (entry_at new) q xs (x ∷ ys)
        ∙ ap (λ js. members (entry_at new) q xs ++ js) (members_past (entry_at new) q x ys (λ r. n (sym r ∙ ap (λ d. d.origin) change.here)))
        ∙ sym (members-append (entry_at new) q xs ys)
        ∙ members_agree (entry_at old) (entry_at new) q (xs ++ ys) (same_entries (xs ++ ys) came_off)

    other_insert : (q : ℕ) → q ≢ o → q < length own → Spells (get_or own q no_origin).ends (of_origin new) (members (entry_at new) q (xs ++ x ∷ ys))
    other_insert q n h =
        subst (Spells (get_or own q no_origin).ends (of_origin new)) (sym (other_members q n))
        (Spells-frame (get_or own q no_origin).ends (of_origin old) (of_origin new) (members (entry_at old) q (xs ++ ys))
        (kept_others (entry_at old) (of_origin old) (of_origin new) o q x (xs ++ ys) n tags.none came_off
        (λ i node other r. Keeps-insert (length old) (get_or own o no_origin).ends e' (of_origin old) (of_origin new) (members (entry_at old) o xs) (members (entry_at old) o ys) x
        owns change.owns i node other (off_members i (members_not (entry_at old) o i (xs ++ ys) r))))
        (shape.own q h))

    free_insert : IsPath (next_in (free_ends (by_tag old x).next) (by_tag new)) NO_NODE fs NO_NODE
    free_insert =
        let was : ℕ → ℕ = next_in (free_ends free) (by_tag old) in
        let now' : ℕ → ℕ = next_in (free_ends (by_tag old x).next) (by_tag new) in
        IsPath-from was now' x NO_NODE fs NO_NODE shape.free.1 (sym (next_in-at (free_ends free) (by_tag old) x came_not_none))
        (All-from_in (IsSame was now') fs (λ i h.
        let node : i ≢ NO_NODE = All-at (λ j. j ≢ NO_NODE) fs i (none_unused (threads_of old own ends free) (xs ++ ys) (x ∷ fs) shape).1 h in
        let other : i ≢ x = All-at (λ j. j ≢ x) fs i (unused_apart (threads_of old own ends free) (xs ++ ys) (x ∷ fs) shape).0 h in
        kept_next (free_ends free) (free_ends (by_tag old x).next) (by_tag old) (by_tag new) i node
        (Keeps-insert (length old) ends ends' (by_tag old) (by_tag new) xs ys x tags change.tags i node other
        (unused_off (threads_of old own ends free) (xs ++ ys) (x ∷ fs) shape i (omega arith)))))

    pub IsArena-insert : AllByRecursion (λ i. name_before o g (entry_at old i) ≡ false) xs → AllByRecursion (λ i. has_name o g (entry_at old i) ≡ false) xs → AllByRecursion (λ i. name_before o g (entry_at old i) ≡ true) ys → IsArena (threads_of new (set own o (record { ends = e'; touched = x })) ends' (by_tag old x).next) (xs ++ x ∷ ys) fs
    IsArena-insert through absent past =
        let n' : Origin = record { ends = e'; touched = x } in
        record {
          small = omega (arith, shape.small, change.len);
          sorted = sorted_insert through absent past;
          declared = subst (λ n. AllByRecursion (λ i. (entry_at new i).origin < n) (xs ++ x ∷ ys)) (sym (length-set own o n')) declared_insert;
          spelled = Spells-insert (length old) ends ends' (by_tag old) (by_tag new) xs ys x tags change.tags came_not_none came_off;
          own = each_origin own o n' (λ n q. Spells n.ends (of_origin new) (members (entry_at new) q (xs ++ x ∷ ys))) declared own_insert other_insert;
          touched =
              each_origin own o n' (λ n q. IsOneOf (members (entry_at new) q (xs ++ x ∷ ys)) n.touched) declared own_touched
              (λ q n h. subst (λ is. IsOneOf is (get_or own q no_origin).touched) (sym (other_members q n)) (shape.touched q h));
          free = free_insert;
          once = λ i.
              let c = count_of-append i xs (x ∷ ys) in
              let d = count_of-append i xs ys in
              let same : count_of i (xs ++ x ∷ ys) + count_of i fs ≡ count_of i (xs ++ ys) + count_of i (x ∷ fs) = omega arith in
              same ∙ shape.once i ∙ ap (λ n. cond (ltb i n) 1 0) (sym change.len);
        }
