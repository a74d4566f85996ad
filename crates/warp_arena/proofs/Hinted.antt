-- What becomes of the hints when an arena changes.
use Rattle.std.proofs.Common.{zero, suc, Bool, IsTrue, ◌<◌, ◌≤◌, [], length, get_or, IsSomeAnd, ◌≡◌, ◌≢◌, ℕ, true, List, ◌∷◌, refl, sym, ap, ◌∙◌, subst, inl, inr, arith, map, Option, Some, None, IsSome}
use Rattle.std.specs.List.{AllByRecursion}
use Rattle.std.specs.Option.{option_map}
use Rattle.std.proofs.lemmas.Bool.{cases_eq, false≢true}
use Rattle.std.proofs.lemmas.Bool.Decides.{nat_tests}
use Rattle.warp_tag.specs.Moment.{Moment, is_before}
use Rattle.warp_tag.specs.Table.{name_before}
use Rattle.warp_tag.specs.declared.entry.Entry.{Entry}
use Rattle.warp_arena.specs.declared.arena.Arena.TheInside.{Inside}
use Rattle.warp_tag.proofs.Lists.{All-weaker}
use Rattle.warp_arena.specs.declared.node.Node.{Node}
use Rattle.warp_arena.specs.Places.{Place, entry_of, with_place, with_change}
use Rattle.warp_arena.specs.Shape.{Threads, IsWhole, IsHinted, AreHints, AreUsed, no_node, IsAfter, IsBehind, IsOwnAfter, used_of, place_at, entry_at}
use Rattle.warp_arena.proofs.Reading.{entry_of-other, entry_found, places, used_found_below}
use Rattle.warp_arena.proofs.Walks.{threads}
use Rattle.warp_arena.proofs.Handles.{entry_of-with_place_same, entry_of-with_place_other, entry_of-with_change_same, entry_of-with_change_other}

-- an arena of these places, where each hint still is a node
pub IsHinted-kept : (t t' : Threads) (n n' : ℕ) (hs os : List ℕ) (ps : List Place) → IsHinted t n hs os → IsWhole t' n' → map (place_at t'.entry) (used_of t' n') ≡ ps → t.size ≤ t'.size → AreUsed t'.entry ps → IsHinted t' n' hs os
IsHinted-kept t t' n n' hs os ps h whole is size used =
    let wider : (h : ℕ) → h < t.size → h < t'.size = λ h l. omega (arith, l, size) in
    record {
      whole = whole;
      used = subst (AreUsed t'.entry) (sym is) used;
      hinted = All-weaker (λ h. h < t.size) (λ h. h < t'.size) wider hs h.hinted;
      own_hinted = All-weaker (λ h. h < t.size) (λ h. h < t'.size) wider os h.own_hinted;
    }

-- no name is before that of an unused node
nothing_before : (o : ℕ) (g : Moment) → name_before o g no_node.entry ≡ true → ⊥
nothing_before o g e = grind (arith, nat_tests)

pub used_start : (o : ℕ) (g : Moment) (X : Type 0) → name_before o g no_node.entry ≡ true → X
used_start o g X e = absurd (nothing_before o g e)

pub used_same : (entry entry' : ℕ → Entry) (ps : List Place) → ((i : ℕ) → entry' i ≡ entry i) → AreUsed entry ps → AreUsed entry' ps
used_same entry entry' ps same used = λ i o g e. used i o g (ap (name_before o g) (sym (same i)) ∙ e)

some_is_not_none : (o : Option Entry) → IsSome o → o ≡ None → ⊥
some_is_not_none o h e = false≢true (subst IsSome e h)

some_found : (o : Option Entry) (e : Entry) → o ≡ Some e → IsSome o
some_found o e h = subst IsSome (sym h) refl

pub used_with_place : (entry entry' : ℕ → Entry) (p : Place) (ps : List Place) → entry_of p.node ps ≡ None → ((i : ℕ) → i ≢ p.node → entry' i ≡ entry i) → AreUsed entry ps → AreUsed entry' (with_place p ps)
used_with_place entry entry' p ps new others used = λ i o g e.
    elim (cases_eq i p.node) [
      | inl same ↦ some_found (entry_of i (with_place p ps)) p.entry (ap (λ k. entry_of k (with_place p ps)) same ∙ entry_of-with_place_same p ps new)
      | inr other ↦ subst IsSome (sym (entry_of-with_place_other p ps i other)) (used i o g (ap (name_before o g) (sym (others i other)) ∙ e))
    ]

some_changed : (change : Entry → Entry) (o : Option Entry) → IsSome o → IsSome (option_map change o)
some_changed change None h = absurd (false≢true h)
some_changed change (Some e) h = refl

pub used_with_change : (entry entry' : ℕ → Entry) (change : Entry → Entry) (n : ℕ) (ps : List Place) → IsSome (entry_of n ps) → ((i : ℕ) → i ≢ n → entry' i ≡ entry i) → AreUsed entry ps → AreUsed entry' (with_change change n ps)
used_with_change entry entry' change n ps found others used = λ i o g e.
    elim (cases_eq i n) [
      | inl same ↦
          subst IsSome (sym (ap (λ k. entry_of k (with_change change n ps)) same ∙ entry_of-with_change_same change n ps))
          (some_changed change (entry_of n ps) found)
      | inr other ↦ subst IsSome (sym (entry_of-with_change_other change n ps i other)) (used i o g (ap (name_before o g) (sym (others i other)) ∙ e))
    ]

pub used_left : (entry entry' : ℕ → Entry) (p : Place) (ps : List Place) → entry' p.node ≡ no_node.entry → ((i : ℕ) → i ≢ p.node → entry' i ≡ entry i) → AreUsed entry (p ∷ ps) → AreUsed entry' ps
used_left entry entry' p ps here others used = λ i o g e.
    elim (cases_eq i p.node) [
      | inl same ↦ absurd (nothing_before o g (ap (name_before o g) (sym (ap entry' same ∙ here)) ∙ e))
      | inr other ↦
          subst IsSome (entry_of-other p ps i (λ r. other (sym r)))
          (used i o g (ap (name_before o g) (sym (others i other)) ∙ e))
    ]

at_index : (P : ℕ → Type 0) (xs : List ℕ) (k d : ℕ) → AllByRecursion P xs → k < length xs → P (get_or xs k d)
at_index P [] k d all h = absurd (omega (arith, h))
at_index P (x ∷ xs) zero d all h = all.0
at_index P (x ∷ xs) (suc k) d all h = at_index P xs k d all.1 (omega (arith, h))

-- each hint is the index of a node
pub hints_below : (size : ℕ) (hs : List ℕ) → AreHints size hs → (k d : ℕ) → k < length hs → get_or hs k d < size
hints_below size hs h k d below = at_index (λ i. i < size) hs k d h below

-- a node of the origin that is after the name
own_after : (a : Inside) → IsHinted (threads a) a.used a.hints.items a.own_hints.items → (o : ℕ) (g : Moment) (i : ℕ) → IsOwnAfter o g (entry_at a.nodes.items i) → IsAfter o g i (places a)
own_after a h o g i after =
    subst (λ e. IsSomeAnd e (λ e. (e.origin ≡ o) × (name_before o g e ≡ true)))
    (sym (entry_found a h.whole i (h.used i o g after.1))) after

is_some_after : (o : ℕ) (g : Moment) (x : Option Entry) → IsSomeAnd x (λ e. (e.origin ≡ o) × (name_before o g e ≡ true)) → IsSome x
is_some_after o g None h = absurd h
is_some_after o g (Some e) h = refl

pub after_below : (a : Inside) → IsHinted (threads a) a.used a.hints.items a.own_hints.items → (o : ℕ) (g : Moment) (i : ℕ) → IsAfter o g i (places a) → i < length a.nodes.items
after_below a h o g i after = used_found_below a h.whole i (is_some_after o g (entry_of i (places a)) after)

-- what is a hint, or after the name, is after the name where the hint is
pub nearest_after : (a : Inside) → IsHinted (threads a) a.used a.hints.items a.own_hints.items → (o : ℕ) (g : Moment) (hint at : ℕ) (ns : List Node) → ns ≡ a.nodes.items → IsOwnAfter o g (entry_at ns hint) → (at ≢ hint → IsAfter o g at (places a)) → IsAfter o g at (places a)
nearest_after a h o g hint at ns nodes own other =
    elim (cases_eq at hint) [
      | inl same ↦
          subst (λ i. IsAfter o g i (places a)) (sym same)
          (own_after a h o g hint (subst (λ ms. IsOwnAfter o g (entry_at ms hint)) nodes own))
      | inr apart ↦ other apart
    ]

behind_of_after : (o : ℕ) (g : Moment) (x : Option Entry) → IsSomeAnd x (λ e. (e.origin ≡ o) × (name_before o g e ≡ true)) → IsSomeAnd x (λ e. name_before o g e ≡ true)
behind_of_after o g None h = absurd h
behind_of_after o g (Some e) h = h.1

pub after_behind : (o : ℕ) (g : Moment) (i : ℕ) (ps : List Place) → IsAfter o g i ps → IsBehind o g i ps
after_behind o g i ps h = behind_of_after o g (entry_of i ps) h

is_some_behind : (o : ℕ) (g : Moment) (x : Option Entry) → IsSomeAnd x (λ e. name_before o g e ≡ true) → IsSome x
is_some_behind o g None h = absurd h
is_some_behind o g (Some e) h = refl

pub behind_below : (a : Inside) → IsHinted (threads a) a.used a.hints.items a.own_hints.items → (o : ℕ) (g : Moment) (i : ℕ) → IsBehind o g i (places a) → i < length a.nodes.items
behind_below a h o g i after = used_found_below a h.whole i (is_some_behind o g (entry_of i (places a)) after)

-- a node that is after the name
node_behind : (a : Inside) → IsHinted (threads a) a.used a.hints.items a.own_hints.items → (o : ℕ) (g : Moment) (i : ℕ) → name_before o g (entry_at a.nodes.items i) ≡ true → IsBehind o g i (places a)
node_behind a h o g i after =
    subst (λ x. IsSomeAnd x (λ e. name_before o g e ≡ true)) (sym (entry_found a h.whole i (h.used i o g after))) after

-- what is a hint, or after the name and of its origin, is after the name where the hint is
pub nearest_behind : (a : Inside) → IsHinted (threads a) a.used a.hints.items a.own_hints.items → (o : ℕ) (g : Moment) (hint at : ℕ) (ns : List Node) → ns ≡ a.nodes.items → name_before o g (entry_at ns hint) ≡ true → (at ≢ hint → IsAfter o g at (places a)) → IsBehind o g at (places a)
nearest_behind a h o g hint at ns nodes own other =
    elim (cases_eq at hint) [
      | inl same ↦
          subst (λ i. IsBehind o g i (places a)) (sym same)
          (node_behind a h o g hint (subst (λ ms. name_before o g (entry_at ms hint) ≡ true) nodes own))
      | inr apart ↦ after_behind o g at (places a) (other apart)
    ]

-- ---- whether a handle names an entry after a tag

-- the entry is after the tag
abbrev IsLater : Moment → Entry → Type 0
IsLater g e = is_before g e.tag ≡ true

later_named : (g : Moment) (e : Entry) → is_before g e.tag ≡ true → name_before 0 g e ≡ true
later_named g e h = grind (arith, nat_tests)

is_some_later : (g : Moment) (x : Option Entry) → IsSomeAnd x (IsLater g) → IsSome x
is_some_later g None h = absurd h
is_some_later g (Some e) h = refl

-- a node's tag is after it just where the handle names an entry after it
pub later_node : (a : Inside) → IsHinted (threads a) a.used a.hints.items a.own_hints.items → (g : Moment) (i : ℕ) (b : Bool) → b ≡ is_before g (entry_at a.nodes.items i).tag → (IsTrue b → IsSomeAnd (entry_of i (places a)) (IsLater g)) × (IsSomeAnd (entry_of i (places a)) (IsLater g) → IsTrue b)
later_node a h g i b is = (
  λ yes.
      let later : is_before g (entry_at a.nodes.items i).tag ≡ true = sym is ∙ yes in
      subst (λ x. IsSomeAnd x (IsLater g)) (sym (entry_found a h.whole i (h.used i 0 g (later_named g (entry_at a.nodes.items i) later)))) later,
  λ named. is ∙ subst (λ x. IsSomeAnd x (IsLater g)) (entry_found a h.whole i (is_some_later g (entry_of i (places a)) named)) named,
)

-- past the nodes no handle names one
pub later_none : (a : Inside) → IsHinted (threads a) a.used a.hints.items a.own_hints.items → (g : Moment) (i : ℕ) → length a.nodes.items ≤ i → IsSomeAnd (entry_of i (places a)) (IsLater g) → ⊥
later_none a h g i past named = omega (arith, past, used_found_below a h.whole i (is_some_later g (entry_of i (places a)) named))
