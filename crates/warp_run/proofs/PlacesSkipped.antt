-- Walks that go on behind a stretch of tags at which no event counts.
use Rattle.std.proofs.Common.{◌≡◌, ℕ, ◌<◌, Bool, true, false, not, List, [], ◌∷◌, ◌++◌, length, refl, sym, ap, ◌∙◌, subst, inl, inr, arith, drop, Option, Some, None, IsSomeAnd, IsTrue}
use Rattle.std.specs.List.{AllByRecursion, cons_option, list_all}
use Rattle.std.specs.Option.{is_some, option_map}
use Rattle.std.proofs.lemmas.Bool.{cases_eq, eq-eqb, ne_eqb, false≢true}
use Rattle.std.proofs.lemmas.Bool.Decides.{nat_tests}
use Rattle.warp_tag.specs.Moment.{Moment, is_before}
use Rattle.warp_tag.specs.Table.{Event, IsTable, live_event, name_before}
use Rattle.warp_tag.specs.declared.entry.Entry.{Entry}
use Rattle.warp_tag.proofs.Lists.{All-right, same_some, some_not_none}
use Rattle.warp_arena.specs.Places.{Place, Reaches, entries_of, entry_of, left_at, places_after, places_before, places_from}
use Rattle.warp_arena.proofs.Reading.{entry_of-here, entry_of-other}
use Rattle.warp_arena.proofs.Tables.{Precedes, All-unmap}
use Rattle.warp_line.proofs.ReplayLemmas.{live_name}
use Rattle.warp_run.specs.Skips.{AreFree, IsStretch}
use Rattle.warp_run.specs.declared.skips.Skips.{Skips}
use Rattle.warp_run.specs.Walk.{event_at, live_of}
use Rattle.warp_run.specs.declared.walk.Live.{Live}
use Rattle.warp_run.proofs.PlacesBack.{heads_at, split_at}
use Rattle.warp_run.proofs.PlacesWalks.{Heads, Seeks, not_before_from, table_from}

-- what a handle names is as all are
at_entry : (P : Entry → Type 0) (ps : List Place) (n : ℕ) (e : Entry) → AllByRecursion (λ (q : Place). P q.entry) ps → entry_of n ps ≡ Some e → P e
at_entry P [] n e all h = absurd (some_not_none e (sym h))
at_entry P (p ∷ ps) n e all h = elim (cases_eq p.node n) [
  | inl same ↦ subst P (same_some p.entry e (sym (entry_of-here p ps n same) ∙ h)) all.0
  | inr other ↦ at_entry P ps n e all.1 (sym (entry_of-other p ps n other) ∙ h)
]

-- none of these events is at a tag that passes
abbrev pub AreApart : (Moment → Bool) → List Event → Type 0
AreApart has E = IsTrue (list_all (λ e. not (has e.tag)) E)

-- so no event counts of an entry at such a tag
none_there : (has : Moment → Bool) (x : Entry) (E : List Event) → has x.tag ≡ true → AreApart has (cons_option (live_event x) E)
    → (live_event x ≡ None) × AreApart has E
none_there has x E here = by (live_event x) (λ v is. (live_name x v is).1)
  where
    by : (o : Option Event) → ((v : Event) → o ≡ Some v → v.tag ≡ x.tag) → AreApart has (cons_option o E) → (o ≡ None) × AreApart has E
    by None tags h = (refl, h)
    by (Some v) tags h = absurd (false≢true (rw (ap has (tags v refl) ∙ here) at h))

not_after_name : (d e : Entry) → name_before d.origin d.tag e ≡ true → is_before e.tag d.tag ≡ false
not_after_name d e h = grind (arith, nat_tests)

not_after_same : (t u : Moment) → t ≡ u → is_before u t ≡ false
not_after_same t u same = ap (is_before u) same ∙ self u
  where
    self : (v : Moment) → is_before v v ≡ false
    self v = grind (arith, nat_tests)

module _ (has : Moment → Bool) (from : Moment) (n : ℕ) (d : Entry) (stretch : IsStretch has from d.tag) where
  -- what is found behind a place up to which all tags pass
  abbrev pub Skipped : List Place → List Place → Type 0
  Skipped ps qs = (live_of (places_after n ps) ≡ live_of qs) × (length (places_after n ps) < length qs)

  -- of places that are not before the stretch
  skipped_late : (qs : List Place) → IsTable (entries_of qs) → AllByRecursion (λ (q : Place). is_before q.entry.tag from ≡ false) qs
      → entry_of n qs ≡ Some d → AreApart has (live_of qs) → Skipped qs qs
  skipped_late [] t late there free = absurd (some_not_none d (sym there))
  skipped_late (q ∷ qs) t late there free = elim (cases_eq q.node n) [
    | inl same ↦
        let is : q.entry ≡ d = same_some q.entry d (sym (entry_of-here q qs n same) ∙ there) in
        let none = none_there has q.entry (live_of qs) (stretch.1 q.entry.tag late.0 (not_after_same q.entry.tag d.tag (ap (λ x. x.tag) is))) free in
        let here : places_after n (q ∷ qs) ≡ qs = rw (eq-eqb q.node n same) refl in (
          ap live_of here ∙ sym (ap (λ o. cons_option o (live_of qs)) none.0),
          omega (arith, ap length here),
        )
    | inr other ↦
        let found : entry_of n qs ≡ Some d = sym (entry_of-other q qs n other) ∙ there in
        let first : Precedes q.entry d = at_entry (λ x. Precedes q.entry x) qs n d (All-unmap (λ x. Precedes q.entry x) (λ (p : Place). p.entry) qs t.0) found in
        let none = none_there has q.entry (live_of qs) (stretch.1 q.entry.tag late.0 (not_after_name q.entry d first)) free in
        let behind : places_after n (q ∷ qs) ≡ places_after n qs = rw (ne_eqb q.node n other) refl in
        let rest = skipped_late qs t.1 late.1 found none.1 in (
          ap live_of behind ∙ rest.0 ∙ sym (ap (λ o. cons_option o (live_of qs)) none.0),
          omega (arith, ap length behind, rest.1),
        )
  ]

  -- a later place is among those from an earlier one on
  inside : (ps : List Place) (x : ℕ) (e : Entry) → IsTable (entries_of ps) → Heads ps x e → entry_of n ps ≡ Some d → is_before e.tag d.tag ≡ true
      → (entry_of n (places_from x ps) ≡ Some d) × (places_from n (places_from x ps) ≡ places_from n ps)
  inside [] x e t head there later = absurd (some_not_none d (sym there))
  inside (p ∷ ps) x e t head there later = elim (cases_eq p.node x) [
    | inl same ↦ rw (eq-eqb p.node x same) (there, refl)
    | inr other ↦
        let behind : Heads ps x e = rw (ne_eqb p.node x other) at head in
        let all : AllByRecursion (λ (q : Place). Precedes p.entry q.entry) (places_before x ps ++ places_from x ps) =
        subst (AllByRecursion (λ (q : Place). Precedes p.entry q.entry)) (split_at x ps)
        (All-unmap (λ y. Precedes p.entry y) (λ (q : Place). q.entry) ps t.0) in
        let first : Precedes p.entry e =
        (subst (AllByRecursion (λ (q : Place). Precedes p.entry q.entry)) behind
        (All-right (λ (q : Place). Precedes p.entry q.entry) (places_before x ps) (places_from x ps) all)).0 in
        elim (cases_eq p.node n) [
          | inl is ↦
              let same : p.entry ≡ d = same_some p.entry d (sym (entry_of-here p ps n is) ∙ there) in
              let never : is_before e.tag d.tag ≡ false = ap (λ (y : Entry). is_before e.tag y.tag) (sym same) ∙ not_after_name p.entry e first in
              absurd (false≢true (sym never ∙ later))
          | inr apart ↦
              let rest = inside ps x e t.1 behind (sym (entry_of-other p ps n apart) ∙ there) later in
              rw (ne_eqb p.node x other, ne_eqb p.node n apart) rest
        ]
  ]

  -- behind a place of a stretch there is what there is behind an earlier one of it
  pub skipped : (ps : List Place) (x : ℕ) (e : Entry) → IsTable (entries_of ps) → Heads ps x e → entry_of n ps ≡ Some d → e.tag ≡ from
      → AreApart has (live_of (places_from x ps)) → Skipped ps (places_from x ps)
  skipped ps x e t head there is free =
      let later : is_before e.tag d.tag ≡ true = ap (λ u. is_before u d.tag) is ∙ stretch.0 in
      let in_rest = inside ps x e t head there later in
      let late = not_before_from ps x e from t head (not_after_same from e.tag (sym is)) in
      subst (λ qs. (live_of qs ≡ live_of (places_from x ps)) × (length qs < length (places_from x ps)))
      (ap (λ (qs : List Place). drop 1 qs) in_rest.1)
      (skipped_late (places_from x ps) (table_from x ps t) late in_rest.0 free)

-- where a walk stands behind a place of which no event counts
pub next_behind : (ps : List Place) (x : ℕ) (e : Entry) → Heads ps x e → live_event e ≡ None
    → (live_of (places_after x ps) ≡ live_of (places_from x ps)) × (length (places_after x ps) < length (places_from x ps))
next_behind ps x e head none = (
  sym (ap live_of head ∙ ap (λ o. cons_option o (live_of (places_after x ps))) none),
  omega (arith, ap length head),
)

-- so it is where a walk stands there
pub stands_behind : (ps : List Place) (at : Option ℕ) (n x : ℕ) → Reaches ps (places_after n ps) at
    → (live_of (places_after n ps) ≡ live_of (places_from x ps)) × (length (places_after n ps) < length (places_from x ps))
    → Reaches ps (left_at at ps) at × (live_of (left_at at ps) ≡ live_of (places_from x ps)) × (length (left_at at ps) < length (places_from x ps))
stands_behind ps at n x r found =
    subst (λ qs. Reaches ps qs at × (live_of qs ≡ live_of (places_from x ps)) × (length qs < length (places_from x ps)))
    (sym r.left) (r, found.0, found.1)

-- behind the place to which a stretch leads
pub behind_target : (has : Moment → Bool) (ps : List Place) (at : Option ℕ) (x n : ℕ) (tag : Moment) → IsTable (entries_of ps)
    → IsSomeAnd (entry_of x ps) (λ e. (e.tag ≡ tag) × (live_event e ≡ None)) → IsSomeAnd (entry_of n ps) (λ e. IsStretch has tag e.tag)
    → AreApart has (live_of (places_from x ps)) → Reaches ps (places_after n ps) at
    → Reaches ps (left_at at ps) at × (live_of (left_at at ps) ≡ live_of (places_from x ps)) × (length (left_at at ps) < length (places_from x ps))
behind_target has ps at x n tag t here there free r = stands_behind ps at n x r (by (entry_of x ps) (entry_of n ps) refl refl here there)
  where
    by : (a b : Option Entry) → entry_of x ps ≡ a → entry_of n ps ≡ b → IsSomeAnd a (λ e. (e.tag ≡ tag) × (live_event e ≡ None))
        → IsSomeAnd b (λ e. IsStretch has tag e.tag)
        → (live_of (places_after n ps) ≡ live_of (places_from x ps)) × (length (places_after n ps) < length (places_from x ps))
    by None b ia ib h k = absurd h
    by (Some e) None ia ib h k = absurd k
    by (Some e) (Some d) ia ib h k = skipped has tag n d k ps x e t (heads_at x e ps ia) ib h.0 free

-- behind the place itself
pub behind_next : (ps : List Place) (at : Option ℕ) (x : ℕ) (tag : Moment)
    → IsSomeAnd (entry_of x ps) (λ e. (e.tag ≡ tag) × (live_event e ≡ None)) → Reaches ps (places_after x ps) at
    → Reaches ps (left_at at ps) at × (live_of (left_at at ps) ≡ live_of (places_from x ps)) × (length (left_at at ps) < length (places_from x ps))
behind_next ps at x tag here r = stands_behind ps at x x r (by (entry_of x ps) refl here)
  where
    by : (a : Option Entry) → entry_of x ps ≡ a → IsSomeAnd a (λ e. (e.tag ≡ tag) × (live_event e ≡ None))
        → (live_of (places_after x ps) ≡ live_of (places_from x ps)) × (length (places_after x ps) < length (places_from x ps))
    by None ia h = absurd h
    by (Some e) ia h = next_behind ps x e (heads_at x e ps ia) h.1

-- ---- on the way of a walk that seeks an event

-- a place of which no event counts
pub dead_here : (o : Option Entry) (e : Entry) (n : ℕ) (l : Option Live) → o ≡ Some e → l ≡ option_map (event_at n) (live_event e) → is_some l ≡ false
    → IsSomeAnd o (λ x. (x.tag ≡ e.tag) × (live_event x ≡ None))
dead_here o e n l is at none =
    subst (λ x. IsSomeAnd x (λ y. (y.tag ≡ e.tag) × (live_event y ≡ None))) (sym is) (refl, by (live_event e) (sym (ap is_some at) ∙ none))
  where
    by : (v : Option Event) → is_some (option_map (event_at n) v) ≡ false → v ≡ None
    by None h = refl
    by (Some v) h = absurd (false≢true (sym h))

-- what is left has no event at a tag of a stretch
pub free_on_way : (s : Skips) (ps rest : List Place) (cursor at : Option ℕ) (node : ℕ) → Reaches ps rest cursor → AreFree s (live_of rest)
    → Seeks ps (left_at cursor ps) at → at ≡ Some node → AreFree s (live_of (places_from node ps))
free_on_way s ps rest cursor at node r free seeks is =
    subst (λ o. AreFree s (live_of (left_at o ps))) is (subst (AreFree s) (ap live_of (sym r.left) ∙ sym seeks.events) free)

-- and behind the place the walk seeks on
pub seeks_on : (ps start : List Place) (at to : Option ℕ) (node : ℕ) → Seeks ps start at → at ≡ Some node → Reaches ps (left_at to ps) to
    → live_of (left_at to ps) ≡ live_of (places_from node ps) → Seeks ps start to
seeks_on ps start at to node seeks is reaches events = record {
  reaches = reaches;
  events = events ∙ sym (ap (λ o. live_of (left_at o ps)) is) ∙ seeks.events;
}

pub fewer_on : (ps : List Place) (at to : Option ℕ) (node : ℕ) → at ≡ Some node → length (left_at to ps) < length (places_from node ps)
    → length (left_at to ps) < length (left_at at ps)
fewer_on ps at to node is less = subst (λ o. length (left_at to ps) < length (left_at o ps)) (sym is) less
