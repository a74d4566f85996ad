-- Rows before a tag stay where the events before it stay.
use Rattle.std.proofs.Common.{◌≡◌, ℕ, Bool, true, false, cond, ◌&&◌, ◌||◌, List, [], ◌∷◌, ap, sym, subst, ◌∙◌, refl, inl, inr, filter, map, Option, Some, None, arith}
use Rattle.std.specs.List.{list_any}
use Rattle.std.proofs.lemmas.Bool.{cases_Bool}
use Rattle.std.proofs.lemmas.Bool.Decides.{nat_tests}
use Rattle.std.proofs.lemmas.Map.Views.{any-filter_same}
use Rattle.warp_tag.specs.Moment.{Moment, is_before, is_same}
use Rattle.warp_tag.specs.Table.{Event}
use Rattle.warp_tag.proofs.Lists.{filter-here, filter-past}
use Rattle.warp_tag.proofs.Tags.{before_trans}
use Rattle.warp_step.specs.Program.{Program}
use Rattle.warp_step.specs.Snapshot.{Snapshot, start_state}
use Rattle.warp_step.specs.Step.{Step}
use Rattle.warp_step.specs.Run.{Row, IsNext, waits, is_after, given_of, given_at, events_until}
use Rattle.warp_step.specs.declared.given_input.Given.{Given}
use Rattle.warp_tag.specs.declared.out.Out.{Out}
use Rattle.warp_step.proofs.TagsOfRun.{after_trans, waits_after}
use Rattle.warp_line.specs.Begin.{BeginFrom, last_after}
use Rattle.warp_run.specs.Aside.{AreAside, IsFrom, Leads}
use Rattle.warp_run.specs.Tip.{HasExecuted}
use Rattle.warp_run.specs.History.{Saved}
use Rattle.warp_run.specs.declared.tip.Tip.{Tip}

-- what passes a test is found among what passes a weaker one
narrower : {X : Type 0} (p q : X → Bool) → ((x : X) → p x ≡ true → q x ≡ true) → (xs : List X) → filter p (filter q xs) ≡ filter p xs
narrower p q weaker [] = refl
narrower p q weaker (x ∷ xs) = elim (cases_Bool (q x)) [
  | inl here ↦ ap (filter p) (filter-here q x xs here) ∙ ap (λ ys. cond (p x) (x ∷ ys) ys) (narrower p q weaker xs)
  | inr past ↦ elim (cases_Bool (p x)) [
    | inl passes ↦ let never : true ≡ false = sym (weaker x passes) ∙ past in cc
    | inr fails ↦ ap (filter p) (filter-past q x xs past) ∙ narrower p q weaker xs ∙ sym (filter-past p x xs fails)
  ]
]

-- the same tag is as early
same_early : (t u end : Moment) → is_before t end ≡ true → is_same t u ≡ true → is_before u end ≡ true
same_early t u end h k = grind (arith, nat_tests)

-- the rows that begin a run are before what is after the last of them, and so is what they come after
starts_before : (P : Program) (E : List Event) (last : Option Moment) (s : Snapshot) (rows : List Row) (end : Moment) → BeginFrom P E last s rows
    → is_after (last_after last rows) end ≡ true → is_after last end ≡ true
starts_before P E last s [] end h before = before
starts_before P E last s (row ∷ rows) end h before =
    after_trans last row.tag end (waits_after E last s row.tag h.0.waiting) (starts_before P E (Some row.tag) row.state rows end h.2 before)

module _ (end : Moment) (D E : List Event) (same : events_until end D ≡ events_until end E) where
  -- at a tag before the end both lists of events give the same
  gives_same : (t : Moment) → is_before t end ≡ true → given_at t D ≡ given_at t E
  gives_same t early =
      let at = (λ (e : Event). is_same t e.tag) in
      let early_ones = narrower at (λ (e : Event). is_before e.tag end) (λ e here. same_early t e.tag end early here) in
      ap (map given_of) (sym (early_ones D) ∙ ap (filter at) same ∙ early_ones E)

  -- and it waits for both or for none
  waits_same : (last : Option Moment) (s : Snapshot) (t : Moment) → is_before t end ≡ true → waits D last s t ≡ waits E last s t
  waits_same last s t early =
      let at = (λ (e : Event). is_same t e.tag) in
      let early_ones = any-filter_same at (λ (e : Event). is_before e.tag end) true (λ e here. same_early t e.tag end early here) in
      ap (λ b. is_after last t && (b || list_any (λ w. is_same t w.tag) s.pending))
      (sym (early_ones D) ∙ ap (list_any at) same ∙ early_ones E)

  -- so it is the next for both
  next_same : (last : Option Moment) (s : Snapshot) (t : Moment) → is_before t end ≡ true → IsNext D last s t → IsNext E last s t
  next_same last s t early next = record {
    waiting = sym (waits_same last s t early) ∙ next.waiting;
    least = λ u h. elim (cases_Bool (is_before u t)) [
      | inl less ↦
          let waiting = waits_same last s u (before_trans u t end less early) ∙ h in
          let never : true ≡ false = sym less ∙ next.least u waiting in cc
      | inr so ↦ so
    ];
  }

  -- and rows before the end begin both runs
  begin_same : (P : Program) (last : Option Moment) (s : Snapshot) (rows : List Row) → is_after (last_after last rows) end ≡ true
      → BeginFrom P D last s rows → BeginFrom P E last s rows
  begin_same P last s [] before h = tt
  begin_same P last s (row ∷ rows) before h =
      let early = starts_before P D (Some row.tag) row.state rows end h.2 before in (
        next_same last s row.tag early h.0,
        subst (λ (X : List Given). Step P s row.tag X row.state row.outputs) (gives_same row.tag early) h.1,
        begin_same P (Some row.tag) row.state rows before h.2,
      )

-- the events after a tag
abbrev pub events_past : Moment → List Event → List Event
events_past tag E = filter (λ e. is_before tag e.tag) E

-- the same tag is as late
same_late : (tag t u : Moment) → is_before tag t ≡ true → is_same t u ≡ true → is_before tag u ≡ true
same_late tag t u h k = grind (arith, nat_tests)

-- what is after a tag that is not before another is after that
late_after : (tag : Moment) (last : Option Moment) (t : Moment) → is_after last tag ≡ false → is_after last t ≡ true → is_before tag t ≡ true
late_after tag None t late after = let never : true ≡ false = late in cc
late_after tag (Some last) t late after = grind (arith, nat_tests)

-- and not before it
late_still : (tag t : Moment) → is_before tag t ≡ true → is_before t tag ≡ false
late_still tag t h = grind (arith, nat_tests)

module _ (tag : Moment) (D E : List Event) (same : events_past tag D ≡ events_past tag E) where
  -- at a tag after the tag both lists of events give the same
  late_gives : (t : Moment) → is_before tag t ≡ true → given_at t D ≡ given_at t E
  late_gives t late =
      let at = (λ (e : Event). is_same t e.tag) in
      let late_ones = narrower at (λ (e : Event). is_before tag e.tag) (λ e here. same_late tag t e.tag late here) in
      ap (map given_of) (sym (late_ones D) ∙ ap (filter at) same ∙ late_ones E)

  -- and after a row that is not before the tag each tag waits for both or for none
  late_waits : (last : Option Moment) (s : Snapshot) (t : Moment) → is_after last tag ≡ false → waits D last s t ≡ waits E last s t
  late_waits last s t late = elim (cases_Bool (is_after last t)) [
    | inl after ↦
        let at = (λ (e : Event). is_same t e.tag) in
        let later = late_after tag last t late after in
        let late_ones = any-filter_same at (λ (e : Event). is_before tag e.tag) true (λ e here. same_late tag t e.tag later here) in
        ap (λ b. is_after last t && (b || list_any (λ w. is_same t w.tag) s.pending))
        (sym (late_ones D) ∙ ap (list_any at) same ∙ late_ones E)
    | inr past ↦ rw past refl
  ]

  -- so rows from there on begin both runs
  begin_late : (P : Program) (last : Option Moment) (s : Snapshot) (rows : List Row) → is_after last tag ≡ false
      → BeginFrom P D last s rows → BeginFrom P E last s rows
  begin_late P last s [] late h = tt
  begin_late P last s (row ∷ rows) late h =
      let later = late_after tag last row.tag late (waits_after D last s row.tag h.0.waiting) in (
        record {
          waiting = sym (late_waits last s row.tag late) ∙ h.0.waiting;
          least = λ u waiting. h.0.least u (late_waits last s u late ∙ waiting);
        },
        subst (λ (X : List Given). Step P s row.tag X row.state row.outputs) (late_gives row.tag later) h.1,
        begin_late P (Some row.tag) row.state rows (late_still tag row.tag later) h.2,
      )

  -- and a checkpoint that is not before the tag leads on for both
  module _ (P : Program) (first : ℕ) (outputs : List Out) where
    leads_late : (c d : Saved) → is_after c.done.last tag ≡ false → Leads P D first outputs c d → Leads P E first outputs c d
    leads_late c d late h = record {
      rows = h.rows;
      begin = begin_late P c.done.last c.state h.rows late h.begin;
      last = h.last;
      state = h.state;
      count = h.count;
      few = h.few;
      start = h.start;
      order = h.order;
      within = h.within;
      gives = h.gives;
    }

    -- to one that is not before it either
    next_late : (c d : Saved) → is_after c.done.last tag ≡ false → Leads P D first outputs c d → is_after d.done.last tag ≡ false
    next_late c d late h = elim (cases_Bool (is_after d.done.last tag)) [
      | inl early ↦
          let before = starts_before P D c.done.last c.state h.rows tag h.begin (ap (λ (o : Option Moment). is_after o tag) (sym h.last) ∙ early) in
          let never : true ≡ false = sym before ∙ late in cc
      | inr so ↦ so
    ]

    -- so it is with all that are aside
    aside_late : (saves : List Saved) → IsFrom tag saves → AreAside P D first outputs saves → AreAside P E first outputs saves
    aside_late [] from h = tt
    aside_late (c ∷ []) from h = (h.0, tt, tt)
    aside_late (c ∷ d ∷ cs) from h = (h.0, leads_late c d from h.1, aside_late (d ∷ cs) (next_late c d from h.1) h.2)

-- What is executed before a tag stays where the events before it are the same, and what is aside and not before it where
-- those after it are.
pub moved : (P : Program) (D E : List Event) (tag : Moment) (x : Tip) (done : List Row) → events_until tag D ≡ events_until tag E
    → events_past tag D ≡ events_past tag E
    → is_after x.last tag ≡ true → IsFrom tag x.aside.history.saves → HasExecuted P D x done → HasExecuted P E x done
moved P D E tag x done same past before from h = record {
  begin = begin_same tag D E same P None (start_state P) done (ap (λ (o : Option Moment). is_after o tag) (sym h.last) ∙ before) h.begin;
  rows = h.rows;
  last = h.last;
  state = h.state;
  outputs = h.outputs;
  ready = h.ready;
  width = h.width;
  base = h.base;
  floor = h.floor;
  from = h.from;
  saved = h.saved;
  near = h.near;
  due = h.due;
  aside_width = h.aside_width;
  aside = aside_late tag D E past P x.aside.first x.aside.outputs x.aside.history.saves from h.aside;
  scratch = h.scratch;
}
