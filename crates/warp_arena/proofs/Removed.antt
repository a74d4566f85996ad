-- The arena after its first node is freed.
use Rattle.std.proofs.Common.{◌≡◌, ◌≢◌, ℕ, zero, suc, ◌+◌, ◌-◌, ◌<◌, cond, eqb, List, [], ◌∷◌, length, refl, sym, ap, ◌∙◌, subst, arith, map, get_or, set, drop}
use Rattle.std.specs.List.{AllByRecursion}
use Rattle.std.proofs.lemmas.List.{length-set, length-map}
use Rattle.warp_tag.specs.declared.entry.Entry.{Entry}
use Rattle.warp_tag.proofs.Lists.{All-weaker, All-filter}
use Rattle.warp_arena.specs.declared.arena.Arena.TheInside.{Inside}
use Rattle.warp_arena.specs.declared.node.Links.{Links}
use Rattle.warp_arena.specs.declared.node.Node.{Node}
use Rattle.warp_arena.specs.declared.node.Origin.{Origin}
use Rattle.warp_arena.specs.declared.node.TheConstants.{NO_NODE}
use Rattle.warp_arena.specs.Changes.{Unthreaded, IsPlace, CanUnthread}
use Rattle.warp_arena.specs.Places.{Place, Contents}
use Rattle.warp_arena.specs.Shape.{IsArena, IsWhole, threads_of, contents_of, unused_of, entry_at, place_at, members, no_origin, next_in, prev_in, walk, IsChain, free_ends}
use Rattle.warp_arena.proofs.Rings.{first_holds, IsChain-split, length-walk}
use Rattle.warp_arena.proofs.Tables.{map_agree}
use Rattle.warp_arena.proofs.Shapes.{all_used_below, none_used, members_here}
use Rattle.warp_arena.proofs.Walks.{room_of, threads, used, Listed-used, node_read, origin_read}
use Rattle.warp_arena.proofs.Reading.{places}
use Rattle.warp_arena.proofs.Removing.{IsArena-remove}
use Rattle.warp_arena.proofs.Wholes.{IsWhole-from, used_is}
use Rattle.warp_arena.proofs.Inserted.{same_contents}

first_step : (next : ℕ → ℕ) (m from : ℕ) → 0 < m → (rest : List ℕ) × (walk next m from ≡ next from ∷ rest) × (suc (length rest) ≡ m)
first_step next zero from h = absurd (omega arith)
first_step next (suc m) from h = (walk next m (next from), refl, ap suc (length-walk next m (next from)))

-- the first node, which is the first of its origin's list too
pub record Leaving (a : Inside) : Type 0 where
  pub rest : List ℕ
  pub fs : List ℕ
  pub parts : used a ≡ a.ends.next ∷ rest
  pub shape : IsArena (threads a) (a.ends.next ∷ rest) fs
  pub len : suc (length rest) ≡ a.used
  pub free_len : length fs + a.used ≡ length a.nodes.items

pub leaving : (a : Inside) → IsWhole (threads a) a.used → 0 < a.used → Leaving a
leaving a w h =
    let r = first_step (next_in a.ends (threads a).links) a.used NO_NODE h in
    let fs : List ℕ = unused_of (threads a) ((threads a).size - a.used) in
    record {
      rest = r.0;
      fs = fs;
      parts = r.1;
      shape = subst (λ is. IsArena (threads a) is fs) r.1 w.shape;
      len = r.2;
      free_len = omega (arith, w.fits, length-walk (next_in (free_ends a.free) (threads a).links) ((threads a).size - a.used) NO_NODE);
    }

pub length-places : (a : Inside) → length (places a) ≡ a.used
length-places a = length-map (used a) (place_at (threads a).entry) ∙ length-walk (next_in a.ends (threads a).links) a.used NO_NODE

pub leaving_of : (a : Inside) (v : Contents) → contents_of (threads a) a.used (room_of a) ≡ v → IsWhole (threads a) a.used → 0 < length v.places → Leaving a
leaving_of a v is w h = leaving a w (omega (arith, length-places a, ap (λ u. length u.places) is))

-- what taking the node out asks for
pub record Unthreadable (size origins : ℕ) (next own_next : ℕ → ℕ) (o x : ℕ) : Type 0 where
  pub tags : CanUnthread size next x
  pub owns : CanUnthread size own_next x
  pub declared : o < origins

after_first : (size : ℕ) (next prev : ℕ → ℕ) (x : ℕ) (rest : List ℕ) → IsChain next prev NO_NODE (x ∷ rest) NO_NODE → AllByRecursion (λ i. i < size) rest → IsPlace size (next x)
after_first size next prev x rest chain below =
    subst (IsPlace size) (sym (IsChain-split next prev NO_NODE (x ∷ []) rest NO_NODE chain).0)
    (first_holds (IsPlace size) rest NO_NODE (All-weaker (λ i. i < size) (IsPlace size) (λ i h _. h) rest below) (λ n. absurd (n refl)))

pub unthreadable : (a : Inside) (l : Leaving a) → Unthreadable (length a.nodes.items) (length a.by_origin.items) (next_in a.ends (threads a).links)
    (next_in (get_or a.by_origin.items ((threads a).entry a.ends.next).origin no_origin).ends (threads a).own_links) ((threads a).entry a.ends.next).origin a.ends.next
unthreadable a l =
    let t = threads a in
    let x : ℕ = a.ends.next in
    let o : ℕ = (t.entry x).origin in
    let below = all_used_below t (x ∷ l.rest) l.fs l.shape in
    let own_chain = subst (λ is. IsChain (next_in (t.own_ends o) t.own_links) (prev_in (t.own_ends o) t.own_links) NO_NODE is NO_NODE)
    (members_here t.entry o x l.rest refl) (l.shape.own o l.shape.declared.0) in
    let node = (none_used t (x ∷ l.rest) l.fs l.shape).0 in
    record {
      tags = record {
        at_in = below.0;
        at_node = node;
        after_in = after_first t.size (next_in t.ends t.links) (prev_in t.ends t.links) x l.rest l.shape.spelled below.1;
      };
      owns = record {
        at_in = below.0;
        at_node = node;
        after_in =
            after_first t.size (next_in (t.own_ends o) t.own_links) (prev_in (t.own_ends o) t.own_links) x (members t.entry o l.rest) own_chain
            (All-filter (λ i. i < t.size) (λ i. eqb (t.entry i).origin o) l.rest below.1);
      };
      declared = l.shape.declared.0;
    }

-- what the reads of the first node and of its origin's ends give
pub record FirstRead (a : Inside) (o : ℕ) (own : Origin) : Type 0 where
  pub is_own : ((threads a).entry a.ends.next).origin ≡ o
  pub own_is : own ≡ get_or a.by_origin.items o no_origin
  pub owns : CanUnthread (length a.nodes.items) (next_in own.ends (threads a).own_links) a.ends.next

module _ (a : Inside) (l : Leaving a) (n : Node) (read : n ≡ get_or a.nodes.items a.ends.next n) (o : ℕ) (o_is : o ≡ n.entry.origin) where
  is_read : ((threads a).entry a.ends.next).origin ≡ o
  is_read = ap (λ (m : Node). m.entry.origin) (sym (node_read a.nodes.items a.ends.next n (unthreadable a l).tags.at_in read)) ∙ sym o_is

  pub first_declared : o < length a.by_origin.items
  first_declared = subst (λ q. q < length a.by_origin.items) is_read l.shape.declared.0

  pub first_read : (own : Origin) → own ≡ get_or a.by_origin.items o own → FirstRead a o own
  first_read own own_read =
      let own_is = origin_read a.by_origin.items o own first_declared own_read in
      record {
        is_own = is_read;
        own_is = own_is;
        owns =
            subst (λ (k : Origin). CanUnthread (length a.nodes.items) (next_in k.ends (threads a).own_links) a.ends.next)
            (ap (λ q. get_or a.by_origin.items q no_origin) is_read ∙ sym own_is) (unthreadable a l).owns;
      }

module _ (a : Inside) (l : Leaving a) (new : List Node) (own : Origin) (ends' e' : Links) (o k : ℕ)
    (is_own : ((threads a).entry a.ends.next).origin ≡ o)
    (own_is : own ≡ get_or a.by_origin.items o no_origin)
    (touched_is : k ≡ cond (eqb own.touched a.ends.next) NO_NODE own.touched)
    (change : Unthreaded a.nodes.items new a.ends ends' own.ends e' a.ends.next a.free)
  where
    shape' : IsArena (threads_of new (set a.by_origin.items o (record { ends = e'; touched = k })) ends' a.ends.next) l.rest (a.ends.next ∷ l.fs)
    shape' =
        IsArena-remove a.nodes.items new a.by_origin.items a.ends ends' e' a.free o a.ends.next l.rest l.fs l.shape is_own
        (subst (λ n. Unthreaded a.nodes.items new a.ends ends' n.ends e' a.ends.next a.free) own_is change)
        k (subst (λ n. k ≡ cond (eqb n.touched a.ends.next) NO_NODE n.touched) own_is touched_is)

    pub whole_removed : IsWhole (threads_of new (set a.by_origin.items o (record { ends = e'; touched = k })) ends' a.ends.next) (a.used - 1)
    whole_removed =
        IsWhole-from (threads_of new (set a.by_origin.items o (record { ends = e'; touched = k })) ends' a.ends.next) l.rest (a.ends.next ∷ l.fs) (a.used - 1) shape'
        (omega (arith, l.len)) (omega (arith, l.len, l.free_len, change.len))

    pub contents_removed : contents_of (threads_of new (set a.by_origin.items o (record { ends = e'; touched = k })) ends' a.ends.next) (a.used - 1) (room_of a)
        ≡ record { origins = length a.by_origin.items; places = drop 1 (places a); free = length a.nodes.items - a.used + 1; room = room_of a }
    contents_removed =
        let t' = threads_of new (set a.by_origin.items o (record { ends = e'; touched = k })) ends' a.ends.next in
        let place : ℕ → Place = place_at (threads a).entry in
        let place' : ℕ → Place = place_at (entry_at new) in
        let same : map place' l.rest ≡ map place l.rest =
        map_agree place place' l.rest
        (All-weaker (λ i. i ≢ a.ends.next) (λ i. place' i ≡ place i) (λ i n. ap (λ (e : Entry). let q : Place = record { node = i; entry = e } in q) (change.entries i n)) l.rest
        (Listed-used (threads a) (a.ends.next ∷ l.rest) l.fs l.shape).apart.0) in
        same_contents (length-set a.by_origin.items o (record { ends = e'; touched = k }))
        (ap (map place') (used_is t' l.rest (a.ends.next ∷ l.fs) (a.used - 1) shape' (omega (arith, l.len))) ∙ same
        ∙ sym (ap (λ is. drop 1 (map place is)) l.parts))
        (omega (arith, l.len, l.free_len, change.len)) refl
