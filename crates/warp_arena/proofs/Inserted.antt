-- The arena after `insert`.
use Rattle.std.proofs.Common.{◌≡◌, ◌≢◌, ℕ, suc, ◌+◌, ◌-◌, ◌<◌, true, false, cond, List, [], ◌∷◌, ◌++◌, length, refl, sym, ap, ◌∙◌, subst, arith, map, get_or, set, None, Option, ℤ}
use Rattle.std.specs.List.{AllByRecursion}
use Rattle.std.proofs.lemmas.List.{map-append, length-set, length-append}
use Rattle.warp_tag.specs.Moment.{Moment}
use Rattle.warp_tag.specs.Table.{name_before}
use Rattle.warp_tag.specs.declared.entry.Entry.{Entry}
use Rattle.warp_tag.proofs.Lists.{All-weaker, All-left, All-right}
use Rattle.warp_arena.specs.declared.arena.Arena.TheInside.{Inside}
use Rattle.warp_arena.specs.declared.node.Links.{Links}
use Rattle.warp_arena.specs.declared.node.Node.{Node}
use Rattle.warp_arena.specs.declared.node.TheConstants.{NO_NODE}
use Rattle.warp_arena.specs.Changes.{Threaded}
use Rattle.warp_arena.specs.Places.{named, Place, Contents, entry_of, with_place, Room}
use Rattle.warp_arena.specs.Shape.{IsArena, IsWhole, threads_of, contents_of, used_of, entry_at, by_tag, place_at, last_or, no_origin}
use Rattle.warp_arena.proofs.Rings.{IsOff, count_of-here}
use Rattle.warp_arena.proofs.Tables.{All-map, map_agree}
use Rattle.warp_arena.proofs.Shapes.{unused_off}
use Rattle.warp_arena.proofs.Walks.{room_of, threads}
use Rattle.warp_arena.proofs.Reading.{places, entry_of-other}
use Rattle.warp_arena.proofs.Inserting.{IsArena-insert}
use Rattle.warp_arena.proofs.Wholes.{Ready, IsWhole-from, used_is}

with_place-at : (p : Place) (front back : List Place) → AllByRecursion (λ q. name_before p.entry.origin p.entry.tag q.entry ≡ false) front → AllByRecursion (λ q. name_before p.entry.origin p.entry.tag q.entry ≡ true) back → with_place p (front ++ back) ≡ front ++ p ∷ back
with_place-at p [] [] a b = refl
with_place-at p [] (q ∷ qs) a b = ap (λ t. cond t (p ∷ q ∷ qs) (q ∷ with_place p qs)) b.0
with_place-at p (q ∷ front) back a b =
    ap (λ t. cond t (p ∷ q ∷ (front ++ back)) (q ∷ with_place p (front ++ back))) a.0
    ∙ ap (λ qs. q ∷ qs) (with_place-at p front back a.1 b)

-- one more place is one more
pub length-with_place : (p : Place) (ps : List Place) → length (with_place p ps) ≡ suc (length ps)
length-with_place p [] = refl
length-with_place p (q ∷ qs) =
    elim (name_before p.entry.origin p.entry.tag q.entry) as (λ b. length (cond b (p ∷ q ∷ qs) (q ∷ with_place p qs)) ≡ suc (suc (length qs))) [
      | true ↦ refl
      | false ↦ ap suc (length-with_place p qs)
    ]

entry_of-off : (entry : ℕ → Entry) (i : ℕ) (is : List ℕ) → IsOff i is → entry_of i (map (place_at entry) is) ≡ None
entry_of-off entry i [] off = refl
entry_of-off entry i (j ∷ is) off = entry_of-other (place_at entry j) (map (place_at entry) is) i off.0 ∙ entry_of-off entry i is off.1

-- two contents that agree in each part
pub same_contents : {o o' : ℕ} {ps ps' : List Place} {f f' : ℕ} {r r' : Room} → o ≡ o' → ps ≡ ps' → f ≡ f' → r ≡ r' → ◌≡◌ {A = Contents} (record { origins = o; places = ps; free = f; room = r }) (record { origins = o'; places = ps'; free = f'; room = r' })
same_contents o ps f r = λ i. record { origins = o i; places = ps i; free = f i; room = r i }

module _ (a : Inside) (o : ℕ) (g : Moment) (before own_before : ℕ) (r : Ready a o g before own_before) (declared : o < length a.by_origin.items) where
  came : IsOff a.free (r.xs ++ r.ys)
  came = unused_off (threads a) (r.xs ++ r.ys) (a.free ∷ r.fs) r.shape a.free (omega (arith, count_of-here a.free r.fs))

  pub new_handle : entry_of a.free (places a) ≡ None
  new_handle = ap (λ is. entry_of a.free (map (place_at (threads a).entry) is)) r.parts ∙ entry_of-off (threads a).entry a.free (r.xs ++ r.ys) came

  module _ (new : List Node) (own ends' e' : Links) (free' : ℕ) (v : Option (ℕ × ℤ))
      (own_is : own ≡ (get_or a.by_origin.items o no_origin).ends)
      (free_is : free' ≡ (by_tag a.nodes.items a.free).next)
      (change : Threaded a.nodes.items new a.ends ends' own e' before own_before a.free (named o g v))
    where
      shape' : IsArena (threads_of new (set a.by_origin.items o (record { ends = e'; touched = a.free })) ends' free') (r.xs ++ a.free ∷ r.ys) r.fs
      shape' =
          let at_before = subst (λ b. Threaded a.nodes.items new a.ends ends' (get_or a.by_origin.items o no_origin).ends e' b own_before a.free (named o g v)) r.before_is
          (subst (λ l. Threaded a.nodes.items new a.ends ends' l e' before own_before a.free (named o g v)) own_is change) in
          let at_both = subst (λ b. Threaded a.nodes.items new a.ends ends' (get_or a.by_origin.items o no_origin).ends e' (last_or NO_NODE r.xs) b a.free (named o g v)) r.own_before_is at_before in
          subst (λ f. IsArena (threads_of new (set a.by_origin.items o (record { ends = e'; touched = a.free })) ends' f) (r.xs ++ a.free ∷ r.ys) r.fs) (sym free_is)
          (IsArena-insert a.nodes.items new a.by_origin.items a.ends ends' e' a.free o a.free g v r.xs r.ys r.fs r.shape at_both declared r.through r.absent r.past)

      len' : length (r.xs ++ a.free ∷ r.ys) ≡ a.used + 1
      len' = omega (arith, length-append r.xs (a.free ∷ r.ys), length-append r.xs r.ys, r.used_len)

      pub whole_inserted : IsWhole (threads_of new (set a.by_origin.items o (record { ends = e'; touched = a.free })) ends' free') (a.used + 1)
      whole_inserted =
          IsWhole-from (threads_of new (set a.by_origin.items o (record { ends = e'; touched = a.free })) ends' free') (r.xs ++ a.free ∷ r.ys) r.fs (a.used + 1) shape' len'
          (omega (arith, r.len, change.len))

      pub contents_inserted : contents_of (threads_of new (set a.by_origin.items o (record { ends = e'; touched = a.free })) ends' free') (a.used + 1) (room_of a)
          ≡ record { origins = length a.by_origin.items; places = with_place (record { node = a.free; entry = named o g v }) (places a); free = length a.nodes.items - a.used - 1; room = room_of a }
      contents_inserted =
          let t' = threads_of new (set a.by_origin.items o (record { ends = e'; touched = a.free })) ends' free' in
          let place : ℕ → Place = place_at (threads a).entry in
          let place' : ℕ → Place = place_at (entry_at new) in
          let p : Place = record { node = a.free; entry = named o g v } in
          let agree : (is : List ℕ) → IsOff a.free is → map place' is ≡ map place is =
          λ is off. map_agree place place' is
          (All-weaker (λ i. i ≢ a.free) (λ i. place' i ≡ place i) (λ i n. ap (λ (e : Entry). let q : Place = record { node = i; entry = e } in q) (change.entries i n)) is off) in
          let here : place' a.free ≡ p = ap (λ (e : Entry). let q : Place = record { node = a.free; entry = e } in q) change.here in
          let new_places : map place' (used_of t' (a.used + 1)) ≡ map place r.xs ++ p ∷ map place r.ys =
          ap (map place') (used_is t' (r.xs ++ a.free ∷ r.ys) r.fs (a.used + 1) shape' len')
          ∙ map-append place' r.xs (a.free ∷ r.ys)
          ∙ ap (λ ps. ps ++ place' a.free ∷ map place' r.ys) (agree r.xs (All-left (λ i. i ≢ a.free) r.xs r.ys came))
          ∙ ap (λ q. map place r.xs ++ q ∷ map place' r.ys) here
          ∙ ap (λ ps. map place r.xs ++ p ∷ ps) (agree r.ys (All-right (λ i. i ≢ a.free) r.xs r.ys came)) in
          let old_places : places a ≡ map place r.xs ++ map place r.ys = ap (map place) r.parts ∙ map-append place r.xs r.ys in
          let put : with_place p (places a) ≡ map place r.xs ++ p ∷ map place r.ys =
          ap (with_place p) old_places
          ∙ with_place-at p (map place r.xs) (map place r.ys)
          (All-map (λ q. name_before o g q.entry ≡ false) place r.xs r.through)
          (All-map (λ q. name_before o g q.entry ≡ true) place r.ys r.past) in
          let sizes : length new - (a.used + 1) ≡ length a.nodes.items - a.used - 1 = omega (arith, change.len) in
          same_contents (length-set a.by_origin.items o (record { ends = e'; touched = a.free })) (new_places ∙ sym put) sizes refl
