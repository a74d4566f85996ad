-- A list of an arena, and a walk along it.
use Rattle.std.proofs.Common.{◌≡◌, ◌≢◌, ℕ, suc, ◌-◌, ◌<◌, ◌≤◌, Bool, true, false, not, cond, eqb, List, [], ◌∷◌, ◌++◌, length, sym, ap, ◌∙◌, subst, inl, inr, arith, filter, get_or, append_assoc}
use Rattle.std.specs.List.{AllByRecursion}
use Rattle.std.proofs.lemmas.Bool.{eq-eqb, ne_eqb}
use Rattle.std.proofs.lemmas.List.{append-nil, get_or_read, length-append}
use Rattle.warp_tag.proofs.Lists.{All-weaker, All-left, All-right, All-filter}
use Rattle.std.specs.Vec.{vec_capacity}
use Rattle.warp_arena.specs.Places.{Room}
use Rattle.warp_tag.specs.declared.entry.Entry.{Entry}
use Rattle.warp_arena.specs.declared.arena.Arena.TheInside.{Inside}
use Rattle.warp_arena.specs.declared.node.Links.{Links}
use Rattle.warp_arena.specs.declared.node.Origin.{Origin}
use Rattle.warp_arena.specs.declared.node.Node.{Node}
use Rattle.warp_arena.specs.Shape.{Threads, IsArena, IsWhole, used_of, unused_of, threads_of, members, Spells, last_or, first_or, next_in, prev_in, node_at, no_node, no_origin}
use Rattle.warp_arena.specs.declared.node.TheConstants.{NO_NODE}
use Rattle.warp_arena.proofs.Listing.{Listed, prev_in-at}
use Rattle.warp_arena.proofs.Rings.{IsOff, IsApart, IsOff-front, IsChain-split, by_last, last_or-push, rank, rank_at}
use Rattle.warp_arena.proofs.Tables.{last_kept}
use Rattle.warp_arena.proofs.Shapes.{used_apart, none_used, all_used_below, members_apart, none_member}

pub Listed-used : (t : Threads) (used unused : List ℕ) → IsArena t used unused → Listed t.size t.ends t.links used
Listed-used t used unused a =
    record {
      chain = a.spelled;
      none = none_used t used unused a;
      apart = used_apart t used unused a;
      below = all_used_below t used unused a;
    }

pub Listed-own : (t : Threads) (used unused : List ℕ) → IsArena t used unused → (o : ℕ) → o < t.origins → Listed t.size (t.own_ends o) t.own_links (members t.entry o used)
Listed-own t used unused a o h =
    record {
      chain = a.own o h;
      none = none_member t used unused a o;
      apart = members_apart t used unused a o;
      below = All-filter (λ i. i < t.size) (λ i. eqb (t.entry i).origin o) used (all_used_below t used unused a);
    }

module _ (size : ℕ) (ends : Links) (links : ℕ → Links) (is : List ℕ) (l : Listed size ends links is) where
  pub Listed-last : ends.prev ≡ last_or NO_NODE is
  Listed-last =
      (IsChain-split (next_in ends links) (prev_in ends links) NO_NODE is [] NO_NODE
      (subst (Spells ends links) (sym (append-nil is)) l.chain)).1

  pub Listed-past : next_in ends links ends.prev ≡ NO_NODE
  Listed-past =
      ap (next_in ends links) Listed-last
      ∙ (IsChain-split (next_in ends links) (prev_in ends links) NO_NODE is [] NO_NODE
      (subst (Spells ends links) (sym (append-nil is)) l.chain)).0

  pub Listed-first : ends.next ≡ first_or is NO_NODE
  Listed-first = (IsChain-split (next_in ends links) (prev_in ends links) NO_NODE [] is NO_NODE l.chain).0

-- a read of a node
pub node_read : (nodes : List Node) (i : ℕ) (x : Node) → i < length nodes → x ≡ get_or nodes i x → x ≡ node_at nodes i
node_read nodes i x h e = get_or_read nodes i x h e no_node

-- a read of an origin
pub origin_read : (origins : List Origin) (i : ℕ) (x : Origin) → i < length origins → x ≡ get_or origins i x → x ≡ get_or origins i no_origin
origin_read origins i x h e = get_or_read origins i x h e no_origin

-- ---- walking a list from its end

-- a walk that came from the end to this place has left only nodes behind that pass the test
pub record Stands (later : ℕ → Bool) (is : List ℕ) (at : ℕ) : Type 0 where
  pub front : List ℕ
  pub back : List ℕ
  pub parts : is ≡ front ++ back
  pub last : at ≡ last_or NO_NODE front
  pub past : AllByRecursion (λ i. later i ≡ true) back

-- how many places a walk still has before it
abbrev pub steps_left : ℕ → List ℕ → ℕ
steps_left at is = cond (eqb at NO_NODE) 0 (rank at is)

steps_at_most : (at : ℕ) (is : List ℕ) (n : ℕ) → rank at is ≤ n → steps_left at is ≤ n
steps_at_most at is n h = elim (eqb at NO_NODE) as (λ b. cond b 0 (rank at is) ≤ n) [ true ↦ omega arith | false ↦ h ]

-- a walk that is not at its end stands at a node
node_at_last : (later : ℕ → Bool) (is : List ℕ) (at : ℕ) (s : Stands later is at) → at ≢ NO_NODE → (fs : List ℕ) × (is ≡ fs ++ at ∷ s.back)
node_at_last later is at s n =
    elim (by_last s.front) [
      | inl none ↦ absurd (n (s.last ∙ ap (last_or NO_NODE) none))
      | inr some ↦
          let here : some.1 ≡ at = sym (s.last ∙ ap (last_or NO_NODE) some.2 ∙ last_or-push NO_NODE some.0 some.1) in
          (some.0, s.parts ∙ ap (λ xs. xs ++ s.back) some.2 ∙ append_assoc some.0 (some.1 ∷ []) s.back ∙ ap (λ k. some.0 ++ k ∷ s.back) here)
    ]

module _ (nodes : List Node) (links : Node → Links) (ends : Links) (is : List ℕ) (l : Listed (length nodes) ends (λ i. links (node_at nodes i)) is) (later : Entry → Bool) where
  abbrev Here : ℕ → Type 0
  Here at = Stands (λ i. later (node_at nodes i).entry) is at

  pub walk_start : (at : ℕ) → at ≡ ends.prev → Here at
  walk_start at e =
      record { front = is; back = []; parts = sym (append-nil is); last = e ∙ Listed-last (length nodes) ends (λ i. links (node_at nodes i)) is l; past = tt }

  pub walk_below : (at : ℕ) → Here at → at ≢ NO_NODE → at < length nodes
  walk_below at s n =
      let f = node_at_last (λ i. later (node_at nodes i).entry) is at s n in
      (All-right (λ i. i < length nodes) f.0 (at ∷ s.back) (subst (AllByRecursion (λ i. i < length nodes)) f.1 l.below)).0

  -- where the link back leads
  prev_is : (at : ℕ) (s : Here at) (n : at ≢ NO_NODE) → (links (node_at nodes at)).prev ≡ last_or NO_NODE (node_at_last (λ i. later (node_at nodes i).entry) is at s n).0
  prev_is at s n =
      let f = node_at_last (λ i. later (node_at nodes i).entry) is at s n in
      let links' : ℕ → Links = λ i. links (node_at nodes i) in
      sym (prev_in-at ends links' at n)
      ∙ (IsChain-split (next_in ends links') (prev_in ends links') NO_NODE f.0 (at ∷ s.back) NO_NODE (subst (Spells ends links') f.1 l.chain)).1

  pub walk_back : (at : ℕ) → Here at → at ≢ NO_NODE → (n m : Node) → n ≡ get_or nodes at n → later n.entry ≡ true → m ≡ get_or nodes at m → Here (links m).prev
  walk_back at s not_end n m rn so rm =
      let f = node_at_last (λ i. later (node_at nodes i).entry) is at s not_end in
      let below = walk_below at s not_end in
      record {
        front = f.0;
        back = at ∷ s.back;
        parts = f.1;
        last = ap (λ k. (links k).prev) (node_read nodes at m below rm) ∙ prev_is at s not_end;
        past = (ap (λ k. later k.entry) (sym (node_read nodes at n below rn)) ∙ so, s.past);
      }

  pub walk_nearer : (at : ℕ) → Here at → at ≢ NO_NODE → (m : Node) → m ≡ get_or nodes at m → steps_left (links m).prev is < steps_left at is
  walk_nearer at s not_end m rm =
      let f = node_at_last (λ i. later (node_at nodes i).entry) is at s not_end in
      let p : ℕ = (links m).prev in
      let to : p ≡ last_or NO_NODE f.0 = ap (λ k. (links k).prev) (node_read nodes at m (walk_below at s not_end) rm) ∙ prev_is at s not_end in
      let apart : IsApart (f.0 ++ at ∷ s.back) = subst IsApart f.1 l.apart in
      let here : steps_left at is ≡ suc (length f.0) =
      ap (λ b. cond b 0 (rank at is)) (ne_eqb at NO_NODE not_end) ∙ ap (rank at) f.1 ∙ rank_at at f.0 s.back (IsOff-front at f.0 s.back apart) in
      let there : steps_left p is ≤ length f.0 =
      elim (by_last f.0) [
        | inl none ↦ omega (arith, ap (λ b. cond b 0 (rank p is)) (eq-eqb p NO_NODE (to ∙ ap (last_or NO_NODE) none)))
        | inr some ↦
            let e : p ≡ some.1 = to ∙ ap (last_or NO_NODE) some.2 ∙ last_or-push NO_NODE some.0 some.1 in
            let parts : is ≡ some.0 ++ some.1 ∷ (at ∷ s.back) = f.1 ∙ ap (λ xs. xs ++ at ∷ s.back) some.2 ∙ append_assoc some.0 (some.1 ∷ []) (at ∷ s.back) in
            let r : rank some.1 is ≡ suc (length some.0) =
            ap (rank some.1) parts ∙ rank_at some.1 some.0 (at ∷ s.back) (IsOff-front some.1 some.0 (at ∷ s.back) (subst IsApart parts l.apart)) in
            let len : length f.0 ≡ suc (length some.0) = ap length some.2 ∙ simp length-append (omega arith) in
            steps_at_most p is (length f.0) (omega (arith, ap (λ k. rank k is) e))
      ] in
      omega arith

  pub stops : (at : ℕ) → Here at → (at ≢ NO_NODE → not (later (node_at nodes at).entry) ≡ true) → at ≡ last_or NO_NODE (filter (λ i. not (later (node_at nodes i).entry)) is)
  stops at s here =
      last_kept (λ i. not (later (node_at nodes i).entry)) s.front s.back at s.last
      (All-weaker (λ i. later (node_at nodes i).entry ≡ true) (λ i. not (later (node_at nodes i).entry) ≡ false) (λ i h. ap not h) s.back s.past) here
      (All-left (λ i. i ≢ NO_NODE) s.front s.back (subst (IsOff NO_NODE) s.parts l.none))
      ∙ ap (λ js. last_or NO_NODE (filter (λ i. not (later (node_at nodes i).entry)) js)) (sym s.parts)

  -- it stops at the last node that does not pass, or at the end
  pub walk_end : (at : ℕ) → Here at → at ≡ NO_NODE → at ≡ last_or NO_NODE (filter (λ i. not (later (node_at nodes i).entry)) is)
  walk_end at s e = stops at s (λ n. absurd (n e))

  pub walk_stop : (at : ℕ) → Here at → at ≢ NO_NODE → (n : Node) → n ≡ get_or nodes at n → later n.entry ≡ false → at ≡ last_or NO_NODE (filter (λ i. not (later (node_at nodes i).entry)) is)
  walk_stop at s not_end n rn so =
      stops at s (λ _. ap (λ k. not (later k.entry)) (sym (node_read nodes at n (walk_below at s not_end) rn)) ∙ ap not so)

-- ---- an arena's fields

-- what the fields say
abbrev pub threads : Inside → Threads
threads a = threads_of a.nodes.items a.by_origin.items a.ends a.free

-- the room of its lists
abbrev pub room_of : Inside → Room
room_of a = record { nodes = vec_capacity a.nodes; hints = vec_capacity a.hints; own_hints = vec_capacity a.own_hints }

-- the used nodes
abbrev pub used : Inside → List ℕ
used a = used_of (threads a) a.used

-- one origin's nodes
abbrev pub owned : Inside → ℕ → List ℕ
owned a o = members (threads a).entry o (used a)

module _ (a : Inside) (w : IsWhole (threads a) a.used) where
  pub Listed-tags : Listed (length a.nodes.items) a.ends (threads a).links (used a)
  Listed-tags = Listed-used (threads a) (used a) (unused_of (threads a) ((threads a).size - a.used)) w.shape

  pub Listed-origin : (o : ℕ) → o < length a.by_origin.items → Listed (length a.nodes.items) ((threads a).own_ends o) (threads a).own_links (owned a o)
  Listed-origin o h = Listed-own (threads a) (used a) (unused_of (threads a) ((threads a).size - a.used)) w.shape o h
