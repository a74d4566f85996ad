-- The arena at its start, and after it grew by one unused node.
use Rattle.std.proofs.Common.{◌≡◌, ◌≢◌, ℕ, ◌+◌, ◌-◌, ◌<◌, cond, eqb, ltb, List, [], ◌∷◌, ◌++◌, length, refl, sym, ap, ◌∙◌, subst, inl, inr, arith, map, get_or, replicate}
use Rattle.std.specs.List.{AllByRecursion}
use Rattle.std.proofs.lemmas.Bool.{cases_eq, cases_lt, le-ltb}
use Rattle.std.proofs.lemmas.Bool.Decides.{nat_tests}
use Rattle.std.proofs.lemmas.List.{length-append, get_or_append_left, get_or_push, get_or_past, get_or-replicate, length-replicate}
use Rattle.warp_tag.specs.Limits.{most_names}
use Rattle.warp_tag.specs.Table.{IsTable}
use Rattle.warp_tag.specs.declared.entry.Entry.{Entry}
use Rattle.warp_tag.proofs.Lists.{All-both, All-weaker, All-filter}
use Rattle.warp_arena.specs.declared.arena.Arena.TheInside.{Inside}
use Rattle.warp_arena.specs.declared.node.Links.{Links}
use Rattle.warp_arena.specs.declared.node.Origin.{Origin}
use Rattle.warp_arena.specs.declared.node.Node.{Node}
use Rattle.warp_arena.specs.declared.node.TheConstants.{NO_NODE}
use Rattle.warp_arena.specs.Places.{Place, Room}
use Rattle.warp_arena.specs.Shape.{Threads, IsArena, IsWhole, threads_of, contents_of, unused_of, count_of, node_at, entry_at, by_tag, of_origin, place_at, members, no_node, no_links, no_origin, IsOneOf, next_in, free_ends, walk, Spells}
use Rattle.warp_arena.proofs.Rings.{length-walk}
use Rattle.warp_arena.proofs.Tables.{map_agree}
use Rattle.warp_arena.proofs.Shapes.{all_used_below, members_agree, none_unused}
use Rattle.warp_arena.proofs.Listing.{next_in-at, Keeps, Spells-frame}
use Rattle.warp_arena.proofs.Walks.{threads, used}
use Rattle.warp_arena.proofs.Reading.{places}
use Rattle.warp_arena.proofs.Wholes.{IsWhole-from, used_is, first_unused}
use Rattle.warp_arena.proofs.Inserted.{same_contents}

-- ---- the start

start_shape : (own : List Origin) (n : ℕ) → own ≡ replicate n no_origin → IsArena (threads_of [] own no_links NO_NODE) [] []
start_shape own n e =
    let none_yet : (o : ℕ) → o < length own → get_or own o no_origin ≡ no_origin =
    λ o h. ap (λ xs. get_or xs o no_origin) e ∙ get_or-replicate n o no_origin no_origin (omega (arith, ap length e, length-replicate n no_origin)) in
    record {
      small = omega arith;
      sorted = tt;
      declared = tt;
      spelled = (refl, refl);
      own = λ o h. (ap (λ (m : Origin). m.ends.next) (none_yet o h), ap (λ (m : Origin). m.ends.prev) (none_yet o h));
      touched = λ o h n. absurd (n (ap (λ (m : Origin). m.touched) (none_yet o h)));
      free = refl;
      once = λ i. sym (ap (λ b. cond b 1 0) (le-ltb i 0 (omega arith)));
    }

pub start_whole : (nodes : List Node) (own : List Origin) (n : ℕ) → nodes ≡ [] → own ≡ replicate n no_origin → IsWhole (threads_of nodes own no_links NO_NODE) 0
start_whole nodes own n e f =
    subst (λ ns. IsWhole (threads_of ns own no_links NO_NODE) 0) (sym e)
    (IsWhole-from (threads_of [] own no_links NO_NODE) [] [] 0 (start_shape own n f) refl refl)

-- ---- one more node

node_pushed : (nodes : List Node) (i : ℕ) → i ≢ length nodes → node_at (nodes ++ no_node ∷ []) i ≡ node_at nodes i
node_pushed nodes i other =
    elim (cases_lt i (length nodes)) [
      | inl below ↦ get_or_append_left nodes (no_node ∷ []) no_node i below
      | inr above ↦
          get_or_past (nodes ++ no_node ∷ []) i no_node (omega (arith, length-append nodes (no_node ∷ [])))
          ∙ sym (get_or_past nodes i no_node above)
    ]

-- no node is free where the free list is empty
pub entry_pushed : (nodes : List Node) (i : ℕ) → entry_at (nodes ++ no_node ∷ []) i ≡ entry_at nodes i
entry_pushed nodes i =
    elim (cases_eq i (length nodes)) [
      | inl same ↦
          ap (λ k. entry_at (nodes ++ no_node ∷ []) k) same ∙ ap (λ n. n.entry) (get_or_push nodes no_node no_node (length nodes) refl)
          ∙ sym (ap (λ k. entry_at nodes k) same ∙ ap (λ n. n.entry) (get_or_past nodes (length nodes) no_node (omega arith)))
      | inr other ↦ ap (λ n. n.entry) (node_pushed nodes i other)
    ]

pub none_free : (a : Inside) → IsWhole (threads a) a.used → a.free ≡ NO_NODE → a.used ≡ length a.nodes.items
none_free a w e =
    elim (cases_lt a.used (length a.nodes.items)) [
      | inl below ↦
          let u = first_unused (threads a) a.used below in
          absurd ((none_unused (threads a) (used a) (a.free ∷ u.rest) (subst (λ fs. IsArena (threads a) (used a) fs) u.parts w.shape)).0 e)
      | inr above ↦ omega (arith, w.fits)
    ]

-- one more number is below a bound that is one greater
one_more : (c n m i : ℕ) → c ≡ cond (ltb i n) 1 0 → m ≡ n + 1 → c + count_of i (n ∷ []) ≡ cond (ltb i m) 1 0
one_more c n m i e f = grind (arith, nat_tests)

count_of_walk : (next : ℕ → ℕ) (i m : ℕ) → m ≡ 0 → count_of i (walk next m NO_NODE) ≡ 0
count_of_walk next i m e = ap (λ k. count_of i (walk next k NO_NODE)) e

module _ (a : Inside) (w : IsWhole (threads a) a.used) (full : a.used ≡ length a.nodes.items) (room : length a.nodes.items < most_names) where
  size : ℕ
  size = length a.nodes.items

  abbrev new : List Node
  new = a.nodes.items ++ no_node ∷ []

  new_len : length new ≡ length a.nodes.items + 1
  new_len = omega (arith, length-append a.nodes.items (no_node ∷ []))

  abbrev t' : Threads
  t' = threads_of new a.by_origin.items a.ends (length a.nodes.items)

  off_new : (is : List ℕ) → AllByRecursion (λ i. i < length a.nodes.items) is → AllByRecursion (λ i. node_at new i ≡ node_at a.nodes.items i) is
  off_new is below =
      All-weaker (λ i. i < length a.nodes.items) (λ i. node_at new i ≡ node_at a.nodes.items i) (λ i h. node_pushed a.nodes.items i (omega arith)) is below

  used_below : AllByRecursion (λ i. i < length a.nodes.items) (used a)
  used_below = all_used_below (threads a) (used a) (unused_of (threads a) ((threads a).size - a.used)) w.shape

  same_nodes : AllByRecursion (λ i. node_at new i ≡ node_at a.nodes.items i) (used a)
  same_nodes = off_new (used a) used_below

  same_entries : AllByRecursion (λ i. entry_at new i ≡ entry_at a.nodes.items i) (used a)
  same_entries =
      All-weaker (λ i. node_at new i ≡ node_at a.nodes.items i) (λ i. entry_at new i ≡ entry_at a.nodes.items i) (λ i e. ap (λ k. k.entry) e) (used a) same_nodes

  kept : (f : Node → Links) (is : List ℕ) → AllByRecursion (λ i. node_at new i ≡ node_at a.nodes.items i) is → AllByRecursion (Keeps (λ i. f (node_at a.nodes.items i)) (λ i. f (node_at new i))) is
  kept f is same =
      All-weaker (λ i. node_at new i ≡ node_at a.nodes.items i) (Keeps (λ i. f (node_at a.nodes.items i)) (λ i. f (node_at new i))) (λ i h. ap f h) is same

  old_once : (i : ℕ) → count_of i (used a) ≡ cond (ltb i (length a.nodes.items)) 1 0
  old_once i =
      let none : count_of i (unused_of (threads a) ((threads a).size - a.used)) ≡ 0 =
      count_of_walk (next_in (free_ends a.free) (threads a).links) i (length a.nodes.items - a.used) (omega arith) in
      omega (arith, w.shape.once i, none)

  once_pushed : (i : ℕ) → count_of i (used a) + count_of i (length a.nodes.items ∷ []) ≡ cond (ltb i (length new)) 1 0
  once_pushed i = one_more (count_of i (used a)) (length a.nodes.items) (length new) i (old_once i) new_len

  shape' : IsArena t' (used a) (length a.nodes.items ∷ [])
  shape' =
      let not_none : length a.nodes.items ≢ NO_NODE = λ e. omega arith in
      record {
        small = omega (arith, new_len);
        sorted = subst IsTable (sym (map_agree (entry_at a.nodes.items) (entry_at new) (used a) same_entries)) w.shape.sorted;
        declared =
            All-both (λ i. entry_at new i ≡ entry_at a.nodes.items i) (λ i. (entry_at a.nodes.items i).origin < length a.by_origin.items)
            (λ i. (entry_at new i).origin < length a.by_origin.items) (λ i p q. subst (λ d. d.origin < length a.by_origin.items) (sym p) q) (used a) same_entries w.shape.declared;
        spelled = Spells-frame a.ends (by_tag a.nodes.items) (by_tag new) (used a) (kept (λ (m : Node). m.by_tag) (used a) same_nodes) w.shape.spelled;
        own = λ o h.
            let ms : List ℕ = members (entry_at a.nodes.items) o (used a) in
            let e : Links = (get_or a.by_origin.items o no_origin).ends in
            subst (Spells e (of_origin new)) (sym (members_agree (entry_at a.nodes.items) (entry_at new) o (used a) same_entries))
            (Spells-frame e (of_origin a.nodes.items) (of_origin new) ms
            (kept (λ (m : Node). m.of_origin) ms (All-filter (λ i. node_at new i ≡ node_at a.nodes.items i) (λ i. eqb (entry_at a.nodes.items i).origin o) (used a) same_nodes))
            (w.shape.own o h));
        touched = λ o h.
            subst (λ js. IsOneOf js (get_or a.by_origin.items o no_origin).touched) (sym (members_agree (entry_at a.nodes.items) (entry_at new) o (used a) same_entries))
            (w.shape.touched o h);
        free = (
          refl,
          next_in-at (free_ends (length a.nodes.items)) (by_tag new) (length a.nodes.items) not_none
              ∙ ap (λ (m : Node). m.by_tag.next) (get_or_push a.nodes.items no_node no_node (length a.nodes.items) refl),
        );
        once = λ i. once_pushed i;
      }

  used_len : length (used a) ≡ a.used
  used_len = length-walk (next_in a.ends (threads a).links) a.used NO_NODE

  pub whole_grown : IsWhole (threads_of (a.nodes.items ++ no_node ∷ []) a.by_origin.items a.ends (length a.nodes.items)) a.used
  whole_grown = IsWhole-from t' (used a) (length a.nodes.items ∷ []) a.used shape' used_len (omega (arith, new_len, full))

  pub contents_grown : (room' : Room) → contents_of (threads_of (a.nodes.items ++ no_node ∷ []) a.by_origin.items a.ends (length a.nodes.items)) a.used room'
      ≡ record { origins = length a.by_origin.items; places = places a; free = 1; room = room' }
  contents_grown room' =
      same_contents refl
      (ap (map (place_at (entry_at new))) (used_is t' (used a) (length a.nodes.items ∷ []) a.used shape' used_len)
      ∙ map_agree (place_at (entry_at a.nodes.items)) (place_at (entry_at new)) (used a)
      (All-weaker (λ i. entry_at new i ≡ entry_at a.nodes.items i) (λ i. place_at (entry_at new) i ≡ place_at (entry_at a.nodes.items) i)
      (λ i e. ap (λ (d : Entry). let p : Place = record { node = i; entry = d } in p) e) (used a) same_entries))
      (omega (arith, new_len, full)) refl
