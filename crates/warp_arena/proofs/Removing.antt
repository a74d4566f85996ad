-- The shape of an arena after its first node went into the free list.
use Rattle.std.proofs.Common.{◌≡◌, ◌≢◌, ℕ, ◌+◌, ◌<◌, cond, eqb, ltb, List, ◌∷◌, length, refl, sym, ap, ◌∙◌, subst, inl, inr, arith, get_or, set}
use Rattle.std.specs.List.{AllByRecursion}
use Rattle.std.proofs.lemmas.Bool.{cases_eq, eq-eqb, ne_eqb}
use Rattle.std.proofs.lemmas.List.{length-set}
use Rattle.warp_tag.specs.Table.{IsTable}
use Rattle.warp_tag.proofs.Lists.{All-weaker, All-both}
use Rattle.warp_arena.specs.declared.node.Links.{Links}
use Rattle.warp_arena.specs.declared.node.Node.{Node}
use Rattle.warp_arena.specs.declared.node.Origin.{Origin}
use Rattle.warp_arena.specs.declared.node.TheConstants.{NO_NODE}
use Rattle.warp_arena.specs.Changes.{Unthreaded}
use Rattle.warp_arena.specs.Shape.{IsArena, Spells, threads_of, count_of, members, entry_at, by_tag, of_origin, IsPath, next_in, free_ends, IsOneOf, no_origin}
use Rattle.warp_arena.proofs.Rings.{IsOff, IsSame, All-from_in, All-at, IsPath-from, count_of-other}
use Rattle.warp_arena.proofs.Tables.{map_agree}
use Rattle.warp_arena.proofs.Shapes.{none_unused, unused_off, members_agree, members_here, members_past, members_not, kept_others}
use Rattle.warp_arena.proofs.Listing.{Listed, next_in-at, kept_next, Spells-frame, Spells-remove, Keeps-remove, each_origin}
use Rattle.warp_arena.proofs.Walks.{Listed-used, Listed-own}

module _ (old new : List Node) (own : List Origin) (ends ends' e' : Links) (free o x : ℕ) (rest fs : List ℕ)
    (shape : IsArena (threads_of old own ends free) (x ∷ rest) fs)
    (is_own : (entry_at old x).origin ≡ o)
    (change : Unthreaded old new ends ends' (get_or own o no_origin).ends e' x free)
  where
    declared : o < length own
    declared = subst (λ q. q < length own) is_own shape.declared.0

    tags : Listed (length old) ends (by_tag old) (x ∷ rest)
    tags = Listed-used (threads_of old own ends free) (x ∷ rest) fs shape

    -- the list of the node's origin, before
    owns : Listed (length old) (get_or own o no_origin).ends (of_origin old) (x ∷ members (entry_at old) o rest)
    owns =
        subst (Listed (length old) (get_or own o no_origin).ends (of_origin old)) (members_here (entry_at old) o x rest is_own)
        (Listed-own (threads_of old own ends free) (x ∷ rest) fs shape o declared)

    same_entries : AllByRecursion (λ i. entry_at new i ≡ entry_at old i) rest
    same_entries = All-weaker (λ i. i ≢ x) (λ i. entry_at new i ≡ entry_at old i) change.entries rest tags.apart.0

    same_members : (q : ℕ) → members (entry_at new) q rest ≡ members (entry_at old) q rest
    same_members q = members_agree (entry_at old) (entry_at new) q rest same_entries

    -- and after
    own_remove : Spells e' (of_origin new) (members (entry_at new) o rest)
    own_remove =
        subst (Spells e' (of_origin new)) (sym (same_members o))
        (Spells-remove (length old) (get_or own o no_origin).ends e' (of_origin old) (of_origin new) x (members (entry_at old) o rest) owns change.owns)

    -- the node touched last is still one of its origin's, where it is not the one that went
    own_touched : (k : ℕ) → k ≡ cond (eqb (get_or own o no_origin).touched x) NO_NODE (get_or own o no_origin).touched → IsOneOf (members (entry_at new) o rest) k
    own_touched k e =
        let was : ℕ = (get_or own o no_origin).touched in
        let one : IsOneOf (x ∷ members (entry_at old) o rest) was = subst (λ is. IsOneOf is was) (members_here (entry_at old) o x rest is_own) (shape.touched o declared) in
        elim (cases_eq was x) [
          | inl same ↦ λ n. absurd (n (e ∙ ap (λ b. cond b NO_NODE was) (eq-eqb was x same)))
          | inr other ↦
              let here : k ≡ was = e ∙ ap (λ b. cond b NO_NODE was) (ne_eqb was x other) in
              subst (λ is. IsOneOf is k) (sym (same_members o))
              (subst (IsOneOf (members (entry_at old) o rest)) (sym here)
              (λ n. omega (arith, one n, count_of-other was x (members (entry_at old) o rest) (λ r. other (sym r)))))
        ]

    -- the list of another origin
    other_members : (q : ℕ) → q ≢ o → members (entry_at old) q (x ∷ rest) ≡ members (entry_at new) q rest
    other_members q n = members_past (entry_at old) q x rest (λ r. n (sym r ∙ is_own)) ∙ sym (same_members q)

    other_remove : (q : ℕ) → q ≢ o → q < length own → Spells (get_or own q no_origin).ends (of_origin new) (members (entry_at new) q rest)
    other_remove q n h =
        subst (Spells (get_or own q no_origin).ends (of_origin new)) (sym (same_members q))
        (Spells-frame (get_or own q no_origin).ends (of_origin old) (of_origin new) (members (entry_at old) q rest)
        (kept_others (entry_at old) (of_origin old) (of_origin new) o q x rest n tags.none.1 tags.apart.0
        (λ i node other r. Keeps-remove (length old) (get_or own o no_origin).ends e' (of_origin old) (of_origin new) x (members (entry_at old) o rest)
        owns change.owns i node other (members_not (entry_at old) o i rest r)))
        (subst (Spells (get_or own q no_origin).ends (of_origin old)) (members_past (entry_at old) q x rest (λ r. n (sym r ∙ is_own))) (shape.own q h)))

    free_push : IsPath (next_in (free_ends x) (by_tag new)) NO_NODE (x ∷ fs) NO_NODE
    free_push =
        let was : ℕ → ℕ = next_in (free_ends free) (by_tag old) in
        let now' : ℕ → ℕ = next_in (free_ends x) (by_tag new) in (
          refl,
          IsPath-from was now' NO_NODE x fs NO_NODE shape.free (next_in-at (free_ends x) (by_tag new) x tags.none.0 ∙ change.freed)
              (All-from_in (IsSame was now') fs (λ i h.
              let off : IsOff i (x ∷ rest) = unused_off (threads_of old own ends free) (x ∷ rest) fs shape i h in
              let node : i ≢ NO_NODE = All-at (λ j. j ≢ NO_NODE) fs i (none_unused (threads_of old own ends free) (x ∷ rest) fs shape) h in
              kept_next (free_ends free) (free_ends x) (by_tag old) (by_tag new) i node
              (Keeps-remove (length old) ends ends' (by_tag old) (by_tag new) x rest tags change.tags i node (λ r. off.0 (sym r)) off.1))),
        )

    pub IsArena-remove : (k : ℕ) → k ≡ cond (eqb (get_or own o no_origin).touched x) NO_NODE (get_or own o no_origin).touched → IsArena (threads_of new (set own o (record { ends = e'; touched = k })) ends' x) rest (x ∷ fs)
    IsArena-remove k e =
        let n' : Origin = record { ends = e'; touched = k } in
        record {
          small = omega (arith, shape.small, change.len);
          sorted = subst IsTable (sym (map_agree (entry_at old) (entry_at new) rest same_entries)) shape.sorted.1;
          declared =
              subst (λ n. AllByRecursion (λ i. (entry_at new i).origin < n) rest) (sym (length-set own o n'))
              (All-both (λ i. entry_at new i ≡ entry_at old i) (λ i. (entry_at old i).origin < length own) (λ i. (entry_at new i).origin < length own)
              (λ i e p. subst (λ d. d.origin < length own) (sym e) p) rest same_entries shape.declared.1);
          spelled = Spells-remove (length old) ends ends' (by_tag old) (by_tag new) x rest tags change.tags;
          own = each_origin own o n' (λ n q. Spells n.ends (of_origin new) (members (entry_at new) q rest)) declared own_remove other_remove;
          touched =
              each_origin own o n' (λ n q. IsOneOf (members (entry_at new) q rest) n.touched) declared (own_touched k e)
              (λ q n h. subst (λ is. IsOneOf is (get_or own q no_origin).touched) (other_members q n) (shape.touched q h));
          free = free_push;
          once = λ i.
              let same : count_of i rest + count_of i (x ∷ fs) ≡ count_of i (x ∷ rest) + count_of i fs = omega arith in
              same ∙ shape.once i ∙ ap (λ n. cond (ltb i n) 1 0) (sym change.len);
        }
