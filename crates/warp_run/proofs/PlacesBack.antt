-- Walks back along an arena's places.
use Rattle.std.proofs.Common.{◌≡◌, ℕ, ◌-◌, ◌<◌, ◌≤◌, Bool, true, false, List, [], ◌∷◌, ◌++◌, length, refl, sym, ap, ◌∙◌, subst, inl, inr, arith, filter, append_assoc, Option, Some, None, IsSomeAnd}
use Rattle.std.specs.List.{AllByRecursion}
use Rattle.std.specs.Option.{is_some}
use Rattle.std.proofs.lemmas.Bool.{cases_Bool, cases_eq, eq-eqb, ne_eqb, false≢true}
use Rattle.std.proofs.lemmas.List.{map-append, length-append}
use Rattle.warp_tag.specs.Moment.{Moment, is_before}
use Rattle.warp_tag.specs.Table.{IsTable}
use Rattle.warp_tag.specs.declared.entry.Entry.{Entry}
use Rattle.warp_tag.proofs.Lists.{All-weaker, All-append, some_not_none, same_some}
use Rattle.warp_tag.proofs.Names.{before_tag}
use Rattle.warp_arena.specs.Places.{Place, Reaches, entries_of, entry_of, first_node, places_from, places_after, places_before}
use Rattle.warp_arena.proofs.Tables.{Precedes, All-unmap, IsTable-before, filter_back}
use Rattle.warp_arena.proofs.Reading.{entry_of-here, entry_of-other}
use Rattle.warp_run.specs.Walk.{ahead}
use Rattle.warp_run.proofs.PlacesWalks.{AreLater, Heads, place, later_from}

-- where there is no last row, all places are ahead
pub ahead_none : (ps : List Place) → ahead None ps ≡ ps
ahead_none [] = refl
ahead_none (p ∷ ps) = ap (λ qs. p ∷ qs) (ahead_none ps)

-- the places are those before a handle's and those from it on
pub split_at : (node : ℕ) (ps : List Place) → ps ≡ places_before node ps ++ places_from node ps
split_at node [] = refl
split_at node (p ∷ ps) =
    elim (cases_eq p.node node) [
      | inl same ↦ rw (eq-eqb p.node node same) refl
      | inr other ↦ rw (ne_eqb p.node node other) (ap (λ qs. p ∷ qs) (split_at node ps))
    ]

-- a handle that names an entry has its place
pub heads_at : (node : ℕ) (e : Entry) (ps : List Place) → entry_of node ps ≡ Some e → Heads ps node e
heads_at node e [] h = absurd (some_not_none e (sym h))
heads_at node e (p ∷ ps) h =
    elim (cases_eq p.node node) [
      | inl same ↦
          let is : p.entry ≡ e = same_some p.entry e (sym (entry_of-here p ps node same) ∙ h) in
          rw (eq-eqb p.node node same) (λ i. (let q : Place = record { node = same i; entry = is i } in q) ∷ ps)
      | inr other ↦ rw (ne_eqb p.node node other) (heads_at node e ps (sym (entry_of-other p ps node other) ∙ h))
    ]

-- a fact of what is looked up
pub looked_up : (P : Entry → Type 0) (o : Option Entry) → IsSomeAnd o P → (e : Entry) × (o ≡ Some e) × P e
looked_up P None h = absurd h
looked_up P (Some e) h = (e, refl, h)

-- from a handle's place on there are at most all places
pub from_most : (node : ℕ) (ps : List Place) → length (places_from node ps) ≤ length ps
from_most node ps = omega (arith, ap length (split_at node ps), length-append (places_before node ps) (places_from node ps))

-- one place back there is one more
pub from_back : (at before : ℕ) (d : Entry) (ps : List Place) → Heads ps before d → places_after before ps ≡ places_from at ps
    → length ps - length (places_from before ps) < length ps - length (places_from at ps)
from_back at before d ps head next = omega (arith, ap length head, ap length next, from_most before ps)

-- where the places ahead are those from a handle's on, a walk at it stands at the first of them
pub reaches_at : (last : Option Moment) (ps : List Place) (at : ℕ) (e : Entry)
    → entry_of at ps ≡ Some e → ahead last ps ≡ places_from at ps → Reaches ps (ahead last ps) (Some at)
reaches_at last ps at e h is =
    record {
      handle = sym (ap first_node (is ∙ heads_at at e ps h));
      used = ap is_some h;
      left = sym is;
    }

-- what stands before a place comes before its name
pub first_there : (ps : List Place) (node : ℕ) (e : Entry) (back : List Place) → IsTable (entries_of ps)
    → ps ≡ places_before node ps ++ place node e ∷ back → AllByRecursion (λ p. Precedes p.entry e) (places_before node ps)
first_there ps node e back t parts =
    let front : List Place = places_before node ps in
    All-unmap (λ x. Precedes x e) (λ (p : Place). p.entry) front
    (IsTable-before (entries_of front) (entries_of back) e
    (subst IsTable (ap entries_of parts ∙ map-append (λ (p : Place). p.entry) front (place node e ∷ back)) t))

-- what stands before a place that is not after a tag is not after it
pub not_later : (tag : Moment) (d : Entry) (front : List Place) → AllByRecursion (λ p. Precedes p.entry d) front → is_before tag d.tag ≡ false
    → AllByRecursion (λ p. is_before tag p.entry.tag ≡ false) front
not_later tag d front first h =
    All-weaker (λ p. Precedes p.entry d) (λ p. is_before tag p.entry.tag ≡ false)
    (λ p before. elim (cases_Bool (is_before tag p.entry.tag)) [
      | inl so ↦ absurd (false≢true (sym h ∙ before_tag tag p.entry d so before))
      | inr not_so ↦ not_so
    ]) front first

-- the walk stands at a place that is after the tag
abbrev pub IsBeyond : Moment → ℕ → List Place → Type 0
IsBeyond tag at ps = IsSomeAnd (entry_of at ps) (λ e. is_before tag e.tag ≡ true)

-- it ends at the first place of all
pub back_at_first : (tag : Moment) (ps : List Place) (at : ℕ) → IsTable (entries_of ps) → IsBeyond tag at ps → places_from at ps ≡ ps
    → Reaches ps (ahead (Some tag) ps) (Some at)
back_at_first tag ps at t h is =
    let e = looked_up (λ x. is_before tag x.tag ≡ true) (entry_of at ps) h in
    let later : AreLater (Some tag) ps = subst (AreLater (Some tag)) is (later_from (Some tag) ps at e.0 t (heads_at at e.0 ps e.1) e.2) in
    reaches_at (Some tag) ps at e.0 e.1 (filter_back (λ (p : Place). is_before tag p.entry.tag) [] ps tt later ∙ sym is)

-- or behind a place that is not after the tag
pub back_behind : (tag : Moment) (ps : List Place) (at before : ℕ) (d : Entry)
    → IsTable (entries_of ps) → IsBeyond tag at ps → Heads ps before d → places_after before ps ≡ places_from at ps → is_before tag d.tag ≡ false
    → Reaches ps (ahead (Some tag) ps) (Some at)
back_behind tag ps at before d t h head next not_so =
    let e = looked_up (λ x. is_before tag x.tag ≡ true) (entry_of at ps) h in
    let q : Place → Bool = λ p. is_before tag p.entry.tag in
    let front : List Place = places_before before ps in
    let back : List Place = places_from at ps in
    let parts : ps ≡ front ++ place before d ∷ back =
    split_at before ps ∙ ap (λ qs. front ++ qs) (head ∙ ap (λ qs. place before d ∷ qs) next) in
    let first : AllByRecursion (λ p. Precedes p.entry d) front = first_there ps before d back t parts in
    let through : AllByRecursion (λ p. q p ≡ false) (front ++ place before d ∷ []) =
    All-append (λ p. q p ≡ false) front (place before d ∷ []) (not_later tag d front first not_so) (not_so, tt) in
    reaches_at (Some tag) ps at e.0 e.1
    (ap (filter q) (parts ∙ sym (append_assoc front (place before d ∷ []) back))
    ∙ filter_back q (front ++ place before d ∷ []) back through (later_from (Some tag) ps at e.0 t (heads_at at e.0 ps e.1) e.2))
