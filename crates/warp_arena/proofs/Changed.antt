-- The arena after a change of one entry that keeps its name.
use Rattle.std.proofs.Common.{◌≡◌, ◌≢◌, ℕ, ◌-◌, ◌<◌, ◌≤◌, Bool, cond, eqb, ltb, ◌&&◌, ◌||◌, List, [], ◌∷◌, length, refl, sym, ap, ◌∙◌, subst, inl, inr, arith, map, get_or, set, IsSome}
use Rattle.std.proofs.lemmas.Bool.{cases_eq, eq-eqb, ne_eqb}
use Rattle.std.proofs.lemmas.List.{length-set, get_or-set_same, get_or-set_other}
use Rattle.warp_tag.specs.Moment.{Moment, is_before, is_same}
use Rattle.warp_tag.specs.Table.{name_before, IsTable}
use Rattle.warp_tag.specs.declared.entry.Entry.{Entry}
use Rattle.warp_tag.proofs.Lists.{All-weaker}
use Rattle.warp_arena.specs.declared.arena.Arena.TheInside.{Inside}
use Rattle.warp_arena.specs.declared.node.Links.{Links}
use Rattle.warp_arena.specs.declared.node.Node.{Node}
use Rattle.warp_arena.specs.declared.node.Origin.{Origin}
use Rattle.warp_arena.specs.declared.node.TheConstants.{NO_NODE}
use Rattle.warp_arena.specs.Places.{Place, entry_of, with_change}
use Rattle.warp_arena.specs.Shape.{IsArena, IsWhole, threads_of, contents_of, unused_of, node_at, entry_at, by_tag, of_origin, place_at, members, no_node, no_origin, IsOneOf, next_in, prev_in, free_ends, IsChain, IsPath}
use Rattle.warp_arena.proofs.Rings.{length-walk}
use Rattle.warp_arena.proofs.Tables.{Precedes, All-map, All-unmap}
use Rattle.warp_arena.proofs.Walks.{room_of, threads, used, node_read}
use Rattle.warp_arena.proofs.Reading.{places, used_found_below}
use Rattle.warp_arena.proofs.Wholes.{IsWhole-from, used_is}
use Rattle.warp_arena.proofs.Inserted.{same_contents}

-- functions that agree everywhere
same_functions : {X Y : Type 0} {f g : X → Y} → ((x : X) → f x ≡ g x) → f ≡ g
same_functions h = λ i x. h x i

-- a node written at an index
node_here : (nodes : List Node) (at : ℕ) (n : Node) → at < length nodes → node_at (set nodes at n) at ≡ n
node_here nodes at n h = get_or-set_same nodes at n no_node h

node_other : (nodes : List Node) (at : ℕ) (n : Node) (i : ℕ) → i ≢ at → node_at (set nodes at n) i ≡ node_at nodes i
node_other nodes at n i h = get_or-set_other nodes at i n no_node h

-- a field of each node is the same, if it is at the one that was written
same_field : {X : Type 0} (f : Node → X) (nodes : List Node) (at : ℕ) (n : Node) → at < length nodes → f n ≡ f (node_at nodes at) → (i : ℕ) → f (node_at (set nodes at n) i) ≡ f (node_at nodes i)
same_field f nodes at n h e i =
    elim (cases_eq i at) [
      | inl same ↦
          subst (λ k. f (node_at (set nodes at n) k) ≡ f (node_at nodes k)) (sym same) (ap f (node_here nodes at n h) ∙ e)
      | inr other ↦ ap f (node_other nodes at n i other)
    ]

-- entries of the same names
abbrev SameNames : (ℕ → Entry) → (ℕ → Entry) → Type 0
SameNames entry entry' = (i : ℕ) → ((entry' i).origin ≡ (entry i).origin) × ((entry' i).tag ≡ (entry i).tag)

same_order : (entry entry' : ℕ → Entry) → SameNames entry entry' → (i j : ℕ) → name_before (entry' i).origin (entry' i).tag (entry' j) ≡ name_before (entry i).origin (entry i).tag (entry j)
same_order entry entry' h i j =
    let P : ℕ → Moment → ℕ → Moment → Bool = λ o t p u. is_before t u || (is_same t u && ltb o p) in
    ap (λ o. P o (entry' i).tag (entry' j).origin (entry' j).tag) (h i).0
    ∙ ap (λ t. P (entry i).origin t (entry' j).origin (entry' j).tag) (h i).1
    ∙ ap (λ p. P (entry i).origin (entry i).tag p (entry' j).tag) (h j).0
    ∙ ap (λ u. P (entry i).origin (entry i).tag (entry j).origin u) (h j).1

IsTable-names : (entry entry' : ℕ → Entry) → SameNames entry entry' → (is : List ℕ) → IsTable (map entry is) → IsTable (map entry' is)
IsTable-names entry entry' h [] t = tt
IsTable-names entry entry' h (i ∷ is) t = (
  All-map (λ d. Precedes (entry' i) d) entry' is
      (All-weaker (λ j. Precedes (entry i) (entry j)) (λ j. Precedes (entry' i) (entry' j)) (λ j p. same_order entry entry' h i j ∙ p) is
      (All-unmap (λ d. Precedes (entry i) d) entry is t.0)),
  IsTable-names entry entry' h is t.1,
)

members_names : (entry entry' : ℕ → Entry) → SameNames entry entry' → (o : ℕ) (is : List ℕ) → members entry' o is ≡ members entry o is
members_names entry entry' h o [] = refl
members_names entry entry' h o (i ∷ is) =
    ap (λ k. cond (eqb k o) (i ∷ members entry' o is) (members entry' o is)) (h i).0
    ∙ ap (λ js. cond (eqb (entry i).origin o) (i ∷ js) js) (members_names entry entry' h o is)

module _ (old new : List Node) (own : List Origin) (ends : Links) (free : ℕ) (is fs : List ℕ)
    (shape : IsArena (threads_of old own ends free) is fs)
    (len : length new ≡ length old)
    (names : SameNames (entry_at old) (entry_at new))
    (tags : by_tag new ≡ by_tag old)
    (owns : of_origin new ≡ of_origin old)
  where
    IsArena-names : IsArena (threads_of new own ends free) is fs
    IsArena-names =
        record {
          small = omega (arith, shape.small, len);
          sorted = IsTable-names (entry_at old) (entry_at new) names is shape.sorted;
          declared =
              All-weaker (λ i. (entry_at old i).origin < length own) (λ i. (entry_at new i).origin < length own)
              (λ i p. subst (λ o. o < length own) (sym (names i).0) p) is shape.declared;
          spelled = subst (λ links. IsChain (next_in ends links) (prev_in ends links) NO_NODE is NO_NODE) (sym tags) shape.spelled;
          own = λ o h.
              let e : Links = (get_or own o no_origin).ends in
              subst (λ links. IsChain (next_in e links) (prev_in e links) NO_NODE (members (entry_at new) o is) NO_NODE) (sym owns)
              (subst (λ js. IsChain (next_in e (of_origin old)) (prev_in e (of_origin old)) NO_NODE js NO_NODE) (sym (members_names (entry_at old) (entry_at new) names o is))
              (shape.own o h));
          touched = λ o h.
              subst (λ js. IsOneOf js (get_or own o no_origin).touched) (sym (members_names (entry_at old) (entry_at new) names o is)) (shape.touched o h);
          free = subst (λ links. IsPath (next_in (free_ends free) links) NO_NODE fs NO_NODE) (sym tags) shape.free;
          once = λ i. shape.once i ∙ ap (λ n. cond (ltb i n) 1 0) (sym len);
        }

map_change : (change : Entry → Entry) (entry entry' : ℕ → Entry) (at : ℕ) → entry' at ≡ change (entry at) → ((i : ℕ) → i ≢ at → entry' i ≡ entry i) → (is : List ℕ) → map (place_at entry') is ≡ with_change change at (map (place_at entry) is)
map_change change entry entry' at here others [] = refl
map_change change entry entry' at here others (i ∷ is) =
    let q : Place = record { node = i; entry = change (entry i) } in
    let head : place_at entry' i ≡ cond (eqb i at) q (place_at entry i) =
    elim (cases_eq i at) [
      | inl same ↦
          ap (λ (e : Entry). let p : Place = record { node = i; entry = e } in p)
          (subst (λ k. entry' k ≡ change (entry k)) (sym same) here)
          ∙ sym (ap (λ b. cond b q (place_at entry i)) (eq-eqb i at same))
      | inr other ↦
          ap (λ (e : Entry). let p : Place = record { node = i; entry = e } in p) (others i other)
          ∙ sym (ap (λ b. cond b q (place_at entry i)) (ne_eqb i at other))
    ] in
    ap (λ p. p ∷ map (place_at entry') is) head
    ∙ ap (λ ps. cond (eqb i at) q (place_at entry i) ∷ ps) (map_change change entry entry' at here others is)

module _ (a : Inside) (w : IsWhole (threads a) a.used) (i : ℕ) (found : IsSome (entry_of i (places a))) (m : Node) (read : m ≡ node_at a.nodes.items i)
    (change : Entry → Entry) (origins : (e : Entry) → (change e).origin ≡ e.origin) (moments : (e : Entry) → (change e).tag ≡ e.tag)
  where
    changed_node : Node
    changed_node = record { entry = change m.entry; by_tag = m.by_tag; of_origin = m.of_origin }

    below : i < length a.nodes.items
    below = used_found_below a w i found

    shape' : IsArena (threads_of (set a.nodes.items i changed_node) a.by_origin.items a.ends a.free) (used a) (unused_of (threads a) ((threads a).size - a.used))
    unfolding changed_node
    shape' =
        IsArena-names a.nodes.items (set a.nodes.items i changed_node) a.by_origin.items a.ends a.free (used a) (unused_of (threads a) ((threads a).size - a.used)) w.shape
        (length-set a.nodes.items i changed_node)
        (λ j. (
          same_field (λ (n : Node). n.entry.origin) a.nodes.items i changed_node below (origins m.entry ∙ ap (λ n. n.entry.origin) read) j,
          same_field (λ (n : Node). n.entry.tag) a.nodes.items i changed_node below (moments m.entry ∙ ap (λ n. n.entry.tag) read) j,
        ))
        (same_functions (same_field (λ (n : Node). n.by_tag) a.nodes.items i changed_node below (ap (λ n. n.by_tag) read)))
        (same_functions (same_field (λ (n : Node). n.of_origin) a.nodes.items i changed_node below (ap (λ n. n.of_origin) read)))

    used_len : length (used a) ≡ a.used
    used_len = length-walk (next_in a.ends (threads a).links) a.used NO_NODE

    pub whole_changed : IsWhole (threads_of (set a.nodes.items i (record { entry = change m.entry; by_tag = m.by_tag; of_origin = m.of_origin })) a.by_origin.items a.ends a.free) a.used
    unfolding changed_node
    whole_changed =
        IsWhole-from (threads_of (set a.nodes.items i changed_node) a.by_origin.items a.ends a.free) (used a) (unused_of (threads a) ((threads a).size - a.used)) a.used shape' used_len
        (omega (arith, w.fits, length-set a.nodes.items i changed_node, length-walk (next_in (free_ends a.free) (threads a).links) ((threads a).size - a.used) NO_NODE))

    pub contents_changed : contents_of (threads_of (set a.nodes.items i (record { entry = change m.entry; by_tag = m.by_tag; of_origin = m.of_origin })) a.by_origin.items a.ends a.free) a.used (room_of a)
        ≡ record { origins = length a.by_origin.items; places = with_change change i (places a); free = length a.nodes.items - a.used; room = room_of a }
    unfolding changed_node
    contents_changed =
        let new : List Node = set a.nodes.items i changed_node in
        let t' = threads_of new a.by_origin.items a.ends a.free in
        same_contents refl
        (ap (map (place_at (entry_at new))) (used_is t' (used a) (unused_of (threads a) ((threads a).size - a.used)) a.used shape' used_len)
        ∙ map_change change (threads a).entry (entry_at new) i
        (ap (λ n. n.entry) (node_here a.nodes.items i changed_node below) ∙ ap (λ n. change n.entry) read)
        (λ j n. ap (λ k. k.entry) (node_other a.nodes.items i changed_node j n))
        (used a))
        (omega (arith, length-set a.nodes.items i changed_node)) refl

-- the arena after a call that wrote this entry at the node of a handle
pub record Changing (a : Inside) (i : ℕ) (change : Entry → Entry) (nodes : List Node) : Type 0 where
  pub whole : IsWhole (threads_of nodes a.by_origin.items a.ends a.free) a.used
  pub contents : contents_of (threads_of nodes a.by_origin.items a.ends a.free) a.used (room_of a)
      ≡ record { origins = length a.by_origin.items; places = with_change change i (places a); free = length a.nodes.items - a.used; room = room_of a }
  pub size : length a.nodes.items ≤ length nodes
  pub others : (j : ℕ) → j ≢ i → entry_at nodes j ≡ entry_at a.nodes.items j

pub changing : (a : Inside) → IsWhole (threads a) a.used → (i j : ℕ) → j ≡ i → IsSome (entry_of i (places a)) → (m : Node) → m ≡ get_or a.nodes.items j m → (change : Entry → Entry) → ((e : Entry) → (change e).origin ≡ e.origin) → ((e : Entry) → (change e).tag ≡ e.tag) → (e : Entry) → e ≡ change m.entry → Changing a i change (set a.nodes.items j (record { entry = e; by_tag = m.by_tag; of_origin = m.of_origin }))
changing a w i j at found m read change origins moments e made =
    let is = node_read a.nodes.items i m (used_found_below a w i found) (subst (λ k. m ≡ get_or a.nodes.items k m) at read) in
    let C = λ (k : ℕ) (x : Entry). Changing a i change (set a.nodes.items k (record { entry = x; by_tag = m.by_tag; of_origin = m.of_origin })) in
    subst (λ k. C k e) (sym at) (subst (λ x. C i x) (sym made) (record {
      whole = whole_changed a w i found m is change origins moments;
      contents = contents_changed a w i found m is change origins moments;
      size = omega (arith, length-set a.nodes.items i (record { entry = change m.entry; by_tag = m.by_tag; of_origin = m.of_origin }));
      others = λ j n. ap (λ k. k.entry) (node_other a.nodes.items i (record { entry = change m.entry; by_tag = m.by_tag; of_origin = m.of_origin }) j n);
    }))
