-- Walks on along an arena's places.
use Rattle.std.proofs.Common.{◌≡◌, ℕ, Bool, true, false, arith, List, [], ◌∷◌, ◌++◌, refl, sym, ap, ◌∙◌, subst, inl, inr, Option, Some, None}
use Rattle.std.specs.List.{AllByRecursion, cons_option}
use Rattle.std.proofs.lemmas.Bool.{cases_eq, eq-eqb, ne_eqb, false≢true}
use Rattle.std.proofs.lemmas.Bool.Decides.{nat_tests}
use Rattle.std.proofs.lemmas.List.{append-nil}
use Rattle.warp_tag.specs.Moment.{Moment, is_before}
use Rattle.warp_tag.specs.Table.{Event, IsTable, fresh, live_event, name_before}
use Rattle.warp_tag.specs.declared.entry.Entry.{Entry}
use Rattle.warp_tag.proofs.Lists.{All-weaker}
use Rattle.warp_tag.proofs.Names.{before_tag}
use Rattle.warp_step.specs.Run.{is_after}
use Rattle.warp_step.specs.declared.given_input.Given.{Given}
use Rattle.warp_arena.specs.Places.{Place, Reaches, entries_of, left_at, places_from, places_after}
use Rattle.warp_arena.proofs.Tables.{Precedes, All-unmap, filter_front, filter_back}
use Rattle.warp_line.proofs.ReplayLemmas.{live_name}
use Rattle.warp_run.specs.Walk.{AreNotBefore, AreThrough, FindsBefore, FindsFirst, ahead, given_by, live_of, through}
use Rattle.warp_run.specs.declared.walk.Live.{Live}

-- the place of an entry at a handle
abbrev pub place : ℕ → Entry → Place
place node e = record { node = node; entry = e }

-- the handle's place is the first of those from it on
abbrev pub Heads : List Place → ℕ → Entry → Type 0
Heads ps node e = places_from node ps ≡ place node e ∷ places_after node ps

-- all these places are after the last row
abbrev pub AreLater : Option Moment → List Place → Type 0
AreLater last ps = AllByRecursion (λ p. is_after last p.entry.tag ≡ true) ps

-- what comes after a name that is after the last row is after it
pub after_name : (last : Option Moment) (o : ℕ) (g : Moment) (e : Entry)
    → is_after last g ≡ true → name_before o g e ≡ true → is_after last e.tag ≡ true
after_name None o g e h before = refl
after_name (Some last) o g e h before = before_tag last (fresh o g) e h before

-- the places from a handle's on are in order
pub table_from : (node : ℕ) (ps : List Place) → IsTable (entries_of ps) → IsTable (entries_of (places_from node ps))
table_from node [] t = tt
table_from node (p ∷ ps) t =
    elim (cases_eq p.node node) [
      | inl same ↦ rw (eq-eqb p.node node same) t
      | inr other ↦ rw (ne_eqb p.node node other) (table_from node ps t.1)
    ]

-- in order, all places are after the last row where the first is
pub later_behind : (last : Option Moment) (p : Place) (ps : List Place)
    → IsTable (entries_of (p ∷ ps)) → is_after last p.entry.tag ≡ true → AreLater last (p ∷ ps)
later_behind last p ps t h = (
  h,
  All-weaker (λ (q : Place). Precedes p.entry q.entry) (λ q. is_after last q.entry.tag ≡ true)
      (λ q k. after_name last p.entry.origin p.entry.tag q.entry h k) ps
      (All-unmap (λ x. Precedes p.entry x) (λ (q : Place). q.entry) ps t.0),
)

-- and so from a handle's place on
pub later_from : (last : Option Moment) (ps : List Place) (node : ℕ) (e : Entry)
    → IsTable (entries_of ps) → Heads ps node e → is_after last e.tag ≡ true → AreLater last (places_from node ps)
later_from last ps node e t head h =
    subst (AreLater last) (sym head)
    (later_behind last (place node e) (places_after node ps) (subst (λ qs. IsTable (entries_of qs)) head (table_from node ps t)) h)

-- ---- gathering what is given

-- What was gathered so far and what is left to gather is what there was before and all at the start, and what is after the tag
-- is left.
pub record Gathers (tag : Moment) (ps start : List Place) (before : List Given) (at : Option ℕ) (items : List Given) : Type 0 where
  pub reaches : Reaches ps (left_at at ps) at
  pub given : items ++ given_by (through tag (left_at at ps)) ≡ before ++ given_by (through tag start)
  pub past : ahead (Some tag) (left_at at ps) ≡ ahead (Some tag) start

-- what a walk that gathers ends with
abbrev pub HasGathered : Moment → List Place → Option ℕ → List Given → Option ℕ → List Given → Type 0
HasGathered tag ps cursor before at items =
    (rest : List Place) → Reaches ps rest cursor → Reaches ps (ahead (Some tag) rest) at × (items ≡ before ++ given_by (through tag rest))

-- it ends where all that is left is after the tag
pub gathers_all : (tag : Moment) (ps : List Place) (cursor at : Option ℕ) (before items : List Given)
    → Gathers tag ps (left_at cursor ps) before at items → (end to : Option ℕ) → at ≡ end → to ≡ end → AreLater (Some tag) (left_at end ps)
    → HasGathered tag ps cursor before to items
gathers_all tag ps cursor at before items g end to is_end to_end later =
    subst (λ o. HasGathered tag ps cursor before o items) (is_end ∙ sym to_end) (λ rest r.
    let q : Place → Bool = λ p. is_before tag p.entry.tag in
    let now : List Place = left_at at ps in
    let all : AreLater (Some tag) now = subst (λ o. AreLater (Some tag) (left_at o ps)) (sym is_end) later in (
      subst (λ qs. Reaches ps qs at) (sym (filter_back q [] now tt all) ∙ g.past ∙ ap (ahead (Some tag)) r.left) g.reaches,
      sym (append-nil items) ∙ ap (λ qs. items ++ given_by qs) (sym (filter_front q [] now tt all)) ∙ g.given
          ∙ ap (λ qs. before ++ given_by (through tag qs)) r.left,
    ))

-- where all are after the tag, nothing is given up to it
pub none_through : (tag : Moment) (ps : List Place) (cursor : Option ℕ) (rest : List Place) → Reaches ps rest cursor
    → AreLater (Some tag) (left_at cursor ps) → Reaches ps (ahead (Some tag) rest) cursor × (given_by (through tag rest) ≡ [])
none_through tag ps cursor rest r later =
    let q : Place → Bool = λ p. is_before tag p.entry.tag in
    let all : AreLater (Some tag) rest = subst (AreLater (Some tag)) r.left later in (
      subst (λ qs. Reaches ps qs cursor) (sym (filter_back q [] rest tt all)) r,
      ap given_by (filter_front q [] rest tt all),
    )

-- ---- the first place after a tag

-- What is left has the places after the tag that there were at the start.
pub record Passes (tag : Moment) (ps start : List Place) (at : Option ℕ) : Type 0 where
  pub reaches : Reaches ps (left_at at ps) at
  pub past : ahead (Some tag) (left_at at ps) ≡ ahead (Some tag) start

-- what a walk past a tag ends with
abbrev pub HasPassed : Moment → List Place → Option ℕ → Option ℕ → Type 0
HasPassed tag ps cursor at = (rest : List Place) → Reaches ps rest cursor → Reaches ps (ahead (Some tag) rest) at

-- it ends where all that is left is after the tag
pub passes_all : (tag : Moment) (ps : List Place) (cursor at : Option ℕ) → Passes tag ps (left_at cursor ps) at
    → (end to : Option ℕ) → at ≡ end → to ≡ end → AreLater (Some tag) (left_at end ps) → HasPassed tag ps cursor to
passes_all tag ps cursor at p end to is_end to_end later =
    subst (λ o. HasPassed tag ps cursor o) (is_end ∙ sym to_end) (λ rest r.
    let now : List Place = left_at at ps in
    let all : AreLater (Some tag) now = subst (λ o. AreLater (Some tag) (left_at o ps)) (sym is_end) later in
    subst (λ qs. Reaches ps qs at)
    (sym (filter_back (λ (q : Place). is_before tag q.entry.tag) [] now tt all) ∙ p.past ∙ ap (ahead (Some tag)) r.left) p.reaches)

-- ---- the first live event

-- where a walk stands, under another name
pub reaches_as : (ps rest : List Place) (x y : Option ℕ) → x ≡ y → Reaches ps rest y → Reaches ps rest x
reaches_as ps rest x y is r = subst (Reaches ps rest) (sym is) r

-- What is left to seek in has the live events that there were at the start.
pub record Seeks (ps start : List Place) (at : Option ℕ) : Type 0 where
  pub reaches : Reaches ps (left_at at ps) at
  pub events : live_of (left_at at ps) ≡ live_of start

-- what a walk that seeks answers
abbrev pub HasFound : List Place → Option ℕ → Option Moment → Option Live → Type 0
HasFound ps cursor latest result =
    (rest : List Place) → Reaches ps rest cursor → AreThrough latest (live_of rest) → FindsFirst ps rest result

-- where there is no latest tag nothing is found
pub found_none : (ps : List Place) (cursor : Option ℕ) (latest : Option Moment) → latest ≡ None → HasFound ps cursor latest None
found_none ps cursor latest is =
    subst (λ l. HasFound ps cursor l None) (sym is) (λ rest r past. by (live_of rest) past)
  where
    by : (E : List Event) → AreThrough None E → E ≡ []
    by [] h = refl
    by (e ∷ E) h = absurd (false≢true h)

-- of places after the latest tag none has an event that counts
none_later : (latest : Moment) (ps : List Place) → AreLater (Some latest) ps → AreThrough (Some latest) (live_of ps) → live_of ps ≡ []
none_later latest [] later h = refl
none_later latest (p ∷ ps) later h =
    none (live_event p.entry) (live_of ps) (none_later latest ps later.1) (λ v k. ap (is_before latest) (live_name p.entry v k).1 ∙ later.0) h
  where
    none : (o : Option Event) (E : List Event) → (AreThrough (Some latest) E → E ≡ [])
        → ((v : Event) → o ≡ Some v → is_before latest v.tag ≡ true) → AreThrough (Some latest) (cons_option o E) → cons_option o E ≡ []
    none None E rest tags h = rest h
    none (Some v) E rest tags h = absurd (false≢true (rw (tags v refl) at h))

-- behind the latest tag nothing is found
found_past : (ps : List Place) (cursor at : Option ℕ) (latest : Moment) (node : ℕ) (e : Entry)
    → IsTable (entries_of ps) → Seeks ps (left_at cursor ps) at → at ≡ Some node → Heads ps node e → is_before latest e.tag ≡ true
    → HasFound ps cursor (Some latest) None
found_past ps cursor at latest node e t s is head h rest r past =
    let same : live_of (left_at at ps) ≡ live_of rest = s.events ∙ ap live_of r.left in
    let later : AreLater (Some latest) (left_at at ps) =
    subst (λ o. AreLater (Some latest) (left_at o ps)) (sym is) (later_from (Some latest) ps node e t head h) in
    sym same ∙ none_later latest (left_at at ps) later (subst (AreThrough (Some latest)) (sym same) past)

-- nor where there is none
pub found_past_latest : (ps : List Place) (cursor at : Option ℕ) (latest : Option Moment) (node : ℕ) (e : Entry)
    → IsTable (entries_of ps) → Seeks ps (left_at cursor ps) at → at ≡ Some node → Heads ps node e → is_after latest e.tag ≡ true
    → HasFound ps cursor latest None
found_past_latest ps cursor at None node e t s is head h = found_none ps cursor None refl
found_past_latest ps cursor at (Some latest) node e t s is head h = found_past ps cursor at latest node e t s is head h

-- what a walk that seeks before a tag answers
abbrev pub HasBefore : List Place → Option ℕ → Moment → Option Live → Type 0
HasBefore ps cursor tag result = (rest : List Place) → Reaches ps rest cursor → FindsBefore ps rest tag result

-- of places that are not before a tag no event is
none_before_of : (tag : Moment) (ps : List Place) → AllByRecursion (λ p. is_before p.entry.tag tag ≡ false) ps → AreNotBefore tag (live_of ps)
none_before_of tag [] later = refl
none_before_of tag (p ∷ ps) later =
    none (live_event p.entry) (live_of ps) (none_before_of tag ps later.1) (λ v k. ap (λ t. is_before t tag) (live_name p.entry v k).1 ∙ later.0)
  where
    none : (o : Option Event) (E : List Event) → AreNotBefore tag E → ((v : Event) → o ≡ Some v → is_before v.tag tag ≡ false)
        → AreNotBefore tag (cons_option o E)
    none None E rest tags = rest
    none (Some v) E rest tags = let first = tags v refl in grind (arith, nat_tests)

-- where the first place is not before it, no place is
pub not_before_from : (ps : List Place) (node : ℕ) (e : Entry) (tag : Moment) → IsTable (entries_of ps) → Heads ps node e → is_before e.tag tag ≡ false
    → AllByRecursion (λ p. is_before p.entry.tag tag ≡ false) (places_from node ps)
not_before_from ps node e tag t head h =
    subst (AllByRecursion (λ (p : Place). is_before p.entry.tag tag ≡ false)) (sym head) (
      h,
      All-weaker (λ (q : Place). Precedes e q.entry) (λ q. is_before q.entry.tag tag ≡ false)
          (λ q k. not_before_name tag e q.entry h k) (places_after node ps)
          (All-unmap (λ x. Precedes e x) (λ (q : Place). q.entry) (places_after node ps)
          (subst (λ qs. IsTable (entries_of qs)) head (table_from node ps t)).0),
    )
  where
    not_before_name : (u : Moment) (d x : Entry) → is_before d.tag u ≡ false → name_before d.origin d.tag x ≡ true → is_before x.tag u ≡ false
    not_before_name u d x h k = grind (arith, nat_tests)

-- nor has any from there on an event before it
left_not_before : (ps : List Place) (at : Option ℕ) (tag : Moment) (node : ℕ) (e : Entry)
    → IsTable (entries_of ps) → at ≡ Some node → Heads ps node e → is_before e.tag tag ≡ false → AreNotBefore tag (live_of (left_at at ps))
left_not_before ps at tag node e t is head h =
    none_before_of tag (left_at at ps)
    (subst (λ o. AllByRecursion (λ (p : Place). is_before p.entry.tag tag ≡ false) (left_at o ps)) (sym is) (not_before_from ps node e tag t head h))

-- so a walk that begins there finds none
pub none_at_first : (ps : List Place) (cursor : Option ℕ) (tag : Moment) (node : ℕ) (e : Entry)
    → IsTable (entries_of ps) → cursor ≡ Some node → Heads ps node e → is_before e.tag tag ≡ false → HasBefore ps cursor tag None
none_at_first ps cursor tag node e t is head h rest r =
    subst (λ qs. AreNotBefore tag (live_of qs)) r.left (left_not_before ps cursor tag node e t is head h)

-- and one that comes there has found none
pub none_on_the_way : (ps : List Place) (cursor at : Option ℕ) (tag : Moment) (node : ℕ) (e : Entry)
    → IsTable (entries_of ps) → Seeks ps (left_at cursor ps) at → at ≡ Some node → Heads ps node e → is_before e.tag tag ≡ false
    → HasBefore ps cursor tag None
none_on_the_way ps cursor at tag node e t s is head h rest r =
    subst (AreNotBefore tag) (s.events ∙ ap live_of r.left) (left_not_before ps at tag node e t is head h)
