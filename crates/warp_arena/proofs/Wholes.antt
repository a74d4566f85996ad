-- From the lists of an arena to its links and back.
use Rattle.std.proofs.Common.{◌≡◌, ◌≢◌, ℕ, zero, suc, ◌+◌, ◌-◌, ◌<◌, Bool, true, false, eqb, List, [], ◌∷◌, ◌++◌, length, refl, sym, ap, ◌∙◌, subst, arith, map, filter, get_or, Option, Some, None, find, not, nat_eq}
use Rattle.std.specs.List.{AllByRecursion, IsDistinct}
use Rattle.std.specs.Option.{option_map}
use Rattle.std.proofs.lemmas.Bool.{ne_eqb}
use Rattle.warp_tag.specs.Moment.{Moment}
use Rattle.warp_tag.specs.Table.{name_before, has_name, IsTable}
use Rattle.warp_tag.specs.declared.entry.Entry.{Entry}
use Rattle.warp_tag.proofs.Lists.{All-weaker, All-left, All-right, All-filter, All-kept, some_not_none, find_none}
use Rattle.warp_arena.specs.declared.arena.Arena.TheInside.{Inside}
use Rattle.warp_arena.specs.declared.node.TheConstants.{NO_NODE}
use Rattle.warp_arena.specs.Places.{Place, places_of, node_of, entries_of, IsOrdered, Room}
use Rattle.warp_arena.specs.Shape.{Threads, IsArena, IsWhole, last_not_after, contents_of, used_of, unused_of, members, place_at, IsChain, last_or, first_or, next_in, prev_in, free_ends, walk, no_origin}
use Rattle.warp_arena.specs.Changes.{IsPlace, CanThread}
use Rattle.warp_arena.proofs.Rings.{IsOff, IsApart, first_holds, last_holds, IsChain-split, walk_path, length-walk, IsPath-chain, count_of-here}
use Rattle.warp_arena.proofs.Tables.{All-map, All-unmap, nodes_of-places, places_of-members, sorted_parts, last_of_places, filter_comm, not_true}
use Rattle.warp_arena.proofs.Shapes.{unused_below, used_apart, none_unused, unused_off, all_used_below, members-append}
use Rattle.warp_arena.proofs.Walks.{threads, used}
use Rattle.warp_arena.proofs.Reading.{places}

-- the lists that the links spell are these
pub used_is : (t : Threads) (is fs : List ℕ) (count : ℕ) → IsArena t is fs → length is ≡ count → used_of t count ≡ is
used_is t is fs count a e =
    ap (λ n. walk (next_in t.ends t.links) n NO_NODE) (sym e)
    ∙ walk_path (next_in t.ends t.links) NO_NODE is NO_NODE (IsPath-chain (next_in t.ends t.links) (prev_in t.ends t.links) NO_NODE is NO_NODE a.spelled)

unused_is : (t : Threads) (is fs : List ℕ) (count : ℕ) → IsArena t is fs → length fs ≡ count → unused_of t count ≡ fs
unused_is t is fs count a e =
    ap (λ n. walk (next_in (free_ends t.free) t.links) n NO_NODE) (sym e)
    ∙ walk_path (next_in (free_ends t.free) t.links) NO_NODE fs NO_NODE a.free

pub IsWhole-from : (t : Threads) (is fs : List ℕ) (count : ℕ) → IsArena t is fs → length is ≡ count → length fs + count ≡ t.size → IsWhole t count
IsWhole-from t is fs count a e f =
    record {
      fits = omega arith;
      shape =
          subst (λ js. IsArena t js (unused_of t (t.size - count))) (sym (used_is t is fs count a e))
          (subst (λ gs. IsArena t is gs) (sym (unused_is t is fs (t.size - count) a (omega arith))) a);
    }

-- the first of the unused nodes
pub record FirstUnused (t : Threads) (count : ℕ) : Type 0 where
  pub rest : List ℕ
  pub parts : unused_of t (t.size - count) ≡ t.free ∷ rest
  pub len : length rest + suc count ≡ t.size

first_of_walk : (t : Threads) (m : ℕ) → 0 < m → (rest : List ℕ) × (walk (next_in (free_ends t.free) t.links) m NO_NODE ≡ t.free ∷ rest) × (suc (length rest) ≡ m)
first_of_walk t zero h = absurd (omega arith)
first_of_walk t (suc m) h =
    (walk (next_in (free_ends t.free) t.links) m t.free, refl, ap suc (length-walk (next_in (free_ends t.free) t.links) m t.free))

pub first_unused : (t : Threads) (count : ℕ) → count < t.size → FirstUnused t count
first_unused t count h =
    let n : ℕ = t.size - count in
    let step : (m : ℕ) → 0 < m → (rest : List ℕ) × (walk (next_in (free_ends t.free) t.links) m NO_NODE ≡ t.free ∷ rest) × (suc (length rest) ≡ m) =
    λ m. first_of_walk t m in
    let r = step n (omega arith) in
    record { rest = r.0; parts = r.1; len = omega (arith, r.2) }

pub none_of_map : {X Y : Type 0} (f : X → Y) (o : Option X) → option_map f o ≡ None → o ≡ None
none_of_map f None e = refl
none_of_map f (Some x) e = absurd (some_not_none (f x) e)

-- ---- before a node comes in

-- where the node goes, and what is known there
pub record Ready (a : Inside) (o : ℕ) (g : Moment) (before own_before : ℕ) : Type 0 where
  pub xs : List ℕ
  pub ys : List ℕ
  pub fs : List ℕ
  pub parts : used a ≡ xs ++ ys
  pub shape : IsArena (threads a) (xs ++ ys) (a.free ∷ fs)
  pub len : length fs + suc a.used ≡ length a.nodes.items
  pub used_len : length (xs ++ ys) ≡ a.used
  pub before_is : before ≡ last_or NO_NODE xs
  pub own_before_is : own_before ≡ last_or NO_NODE (members (threads a).entry o xs)
  pub through : AllByRecursion (λ i. name_before o g ((threads a).entry i) ≡ false) xs
  pub past : AllByRecursion (λ i. name_before o g ((threads a).entry i) ≡ true) ys
  pub absent : AllByRecursion (λ i. has_name o g ((threads a).entry i) ≡ false) xs

pub ready : (a : Inside) → IsWhole (threads a) a.used → (o : ℕ) (g : Moment) (before own_before : ℕ) → 0 < length a.nodes.items - a.used → before ≡ last_not_after o g (places a) → own_before ≡ last_not_after o g (places_of o (places a)) → node_of o g (places a) ≡ None → Ready a o g before own_before
ready a w o g before own_before room s r absent =
    let entry : ℕ → Entry = (threads a).entry in
    let later : ℕ → Bool = λ i. name_before o g (entry i) in
    let xs : List ℕ = filter (λ i. not (later i)) (used a) in
    let parts : used a ≡ xs ++ filter later (used a) = sorted_parts o g entry (used a) w.shape.sorted in
    let u = first_unused (threads a) a.used (omega arith) in
    let test : Place → Bool = λ p. has_name o g p.entry in
    let none : AllByRecursion (λ i. has_name o g (entry i) ≡ false) (used a) =
    All-unmap (λ p. test p ≡ false) (place_at entry) (used a)
    (find_none test (places a) (none_of_map (λ (p : Place). p.node) (find test (places a)) absent)) in
    record {
      xs = xs;
      ys = filter later (used a);
      fs = u.rest;
      parts = parts;
      shape = subst (λ is. IsArena (threads a) is (a.free ∷ u.rest)) parts (subst (λ fs. IsArena (threads a) (used a) fs) u.parts w.shape);
      len = u.len;
      used_len = ap length (sym parts) ∙ length-walk (next_in a.ends (threads a).links) a.used NO_NODE;
      before_is = s ∙ sym (last_of_places o g entry (used a));
      own_before_is =
          r ∙ ap (λ ps. last_not_after o g ps) (places_of-members entry o (used a)) ∙ sym (last_of_places o g entry (members entry o (used a)))
          ∙ ap (last_or NO_NODE) (filter_comm (λ i. not (later i)) (λ i. eqb (entry i).origin o) (used a));
      through =
          All-weaker (λ i. not (later i) ≡ true) (λ i. later i ≡ false) (λ i h. not_true (later i) h) xs (All-kept (λ i. not (later i)) (used a));
      past = All-kept later (used a);
      absent = All-filter (λ i. has_name o g (entry i) ≡ false) (λ i. not (later i)) (used a) none;
    }

-- what threading the node asks for
pub record Threadable (size : ℕ) (next own_next : ℕ → ℕ) (b c x : ℕ) : Type 0 where
  pub tags : CanThread size next b x
  pub owns : CanThread size own_next c x

-- a place at the split of a list that the links spell
at_split : (size : ℕ) (next prev : ℕ → ℕ) (xs ys : List ℕ) (x before : ℕ) → IsChain next prev NO_NODE (xs ++ ys) NO_NODE → AllByRecursion (λ i. i < size) (xs ++ ys) → IsOff x (xs ++ ys) → x < size → x ≢ NO_NODE → before ≡ last_or NO_NODE xs → CanThread size next before x
at_split size next prev xs ys x before chain below off at_in node e =
    let after : next before ≡ first_or ys NO_NODE = ap next e ∙ (IsChain-split next prev NO_NODE xs ys NO_NODE chain).0 in
    let is_place : (i : ℕ) → i < size → IsPlace size i = λ i h _. h in
    let end_place : IsPlace size NO_NODE = λ n. absurd (n refl) in
    let none : NO_NODE ≢ x = λ h. node (sym h) in
    record {
      before_in =
          subst (IsPlace size) (sym e)
          (last_holds (IsPlace size) NO_NODE xs end_place (All-weaker (λ i. i < size) (IsPlace size) is_place xs (All-left (λ i. i < size) xs ys below)));
      after_in =
          subst (IsPlace size) (sym after)
          (first_holds (IsPlace size) ys NO_NODE (All-weaker (λ i. i < size) (IsPlace size) is_place ys (All-right (λ i. i < size) xs ys below)) end_place);
      at_in = at_in;
      at_node = node;
      not_before = subst (λ k. k ≢ x) (sym e) (last_holds (λ k. k ≢ x) NO_NODE xs none (All-left (λ i. i ≢ x) xs ys off));
      not_after = subst (λ k. k ≢ x) (sym after) (first_holds (λ k. k ≢ x) ys NO_NODE (All-right (λ i. i ≢ x) xs ys off) none);
    }

pub threadable : (a : Inside) (o : ℕ) (g : Moment) (before own_before : ℕ) → Ready a o g before own_before → o < length a.by_origin.items → Threadable (length a.nodes.items) (next_in a.ends (threads a).links) (next_in (get_or a.by_origin.items o no_origin).ends (threads a).own_links) before own_before a.free
threadable a o g before own_before r h =
    let t = threads a in
    let x : ℕ = a.free in
    let off : IsOff x (r.xs ++ r.ys) = unused_off t (r.xs ++ r.ys) (x ∷ r.fs) r.shape x (omega (arith, count_of-here x r.fs)) in
    let node : x ≢ NO_NODE = (none_unused t (r.xs ++ r.ys) (x ∷ r.fs) r.shape).0 in
    let at_in : x < t.size = unused_below t (r.xs ++ r.ys) (x ∷ r.fs) r.shape x (omega (arith, count_of-here x r.fs)) in
    let below = all_used_below t (r.xs ++ r.ys) (x ∷ r.fs) r.shape in
    let own_parts = members-append t.entry o r.xs r.ys in
    let test : ℕ → Bool = λ i. eqb (t.entry i).origin o in
    record {
      tags = at_split t.size (next_in t.ends t.links) (prev_in t.ends t.links) r.xs r.ys x before r.shape.spelled below off at_in node r.before_is;
      owns =
          at_split t.size (next_in (t.own_ends o) t.own_links) (prev_in (t.own_ends o) t.own_links) (members t.entry o r.xs) (members t.entry o r.ys) x own_before
          (subst (λ is. IsChain (next_in (t.own_ends o) t.own_links) (prev_in (t.own_ends o) t.own_links) NO_NODE is NO_NODE) own_parts (r.shape.own o h))
          (subst (AllByRecursion (λ i. i < t.size)) own_parts (All-filter (λ i. i < t.size) test (r.xs ++ r.ys) below))
          (subst (IsOff x) own_parts (All-filter (λ i. i ≢ x) test (r.xs ++ r.ys) off))
          at_in node r.own_before_is;
    }

-- ---- what contracts see is in order

pub entries_of-places : (entry : ℕ → Entry) (is : List ℕ) → entries_of (map (place_at entry) is) ≡ map entry is
entries_of-places entry [] = refl
entries_of-places entry (i ∷ is) = ap (λ es. entry i ∷ es) (entries_of-places entry is)

IsDistinct-apart : (is : List ℕ) → IsApart is → IsDistinct nat_eq is
unfolding IsDistinct
IsDistinct-apart [] a = tt
IsDistinct-apart (i ∷ is) a =
    (All-weaker (λ j. j ≢ i) (λ j. eqb i j ≡ false) (λ j n. ne_eqb i j (λ e. n (sym e))) is a.0, IsDistinct-apart is a.1)

pub ordered : (a : Inside) → IsWhole (threads a) a.used → (room : Room) → IsOrdered (contents_of (threads a) a.used room)
ordered a w room =
    record {
      table = subst IsTable (sym (entries_of-places (threads a).entry (used a))) w.shape.sorted;
      declared = All-map (λ p. p.entry.origin < length a.by_origin.items) (place_at (threads a).entry) (used a) w.shape.declared;
      handles =
          subst (IsDistinct nat_eq) (sym (nodes_of-places (threads a).entry (used a)))
          (IsDistinct-apart (used a) (used_apart (threads a) (used a) (unused_of (threads a) ((threads a).size - a.used)) w.shape));
    }
