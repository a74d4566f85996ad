-- One more row is executed.
use Rattle.std.proofs.Common.{◌≡◌, ℕ, ◌+◌, ◌≤◌, true, false, ◌||◌, nat_lt, IsTrue, List, [], ◌∷◌, ◌++◌, length, map, ap, sym, subst, ◌∙◌, rules, inl, inr, arith, Option, Some, None, length-append}
use Rattle.std.specs.List.{list_any}
use Rattle.std.proofs.lemmas.Bool.{cases_Bool}
use Rattle.std.proofs.lemmas.Bool.Decides.{nat_tests}
use Rattle.std.proofs.lemmas.Grind.{flat_map-append}
use Rattle.warp_tag.specs.Moment.{Moment, is_same}
use Rattle.warp_tag.specs.Table.{Event}
use Rattle.warp_tag.proofs.Lists.{filter-here, filter-past}
use Rattle.warp_step.specs.Program.{Program}
use Rattle.warp_step.specs.Snapshot.{Snapshot, start_state}
use Rattle.warp_step.specs.Step.{CanStep, Step}
use Rattle.warp_step.specs.Run.{Row, IsNext, given_of, given_at, state_at_end}
use Rattle.warp_step.specs.declared.given_input.Given.{Given}
use Rattle.warp_tag.specs.declared.out.Out.{Out}
use Rattle.warp_step.proofs.TagsOfRun.{none_before}
use Rattle.warp_line.specs.Begin.{BeginFrom, last_after}
use Rattle.warp_line.proofs.ProgressLemmas.{turned}
use Rattle.warp_run.specs.Aside.{AreAside}
use Rattle.warp_run.specs.Tip.{AreSaved, CanGive, HasExecuted}
use Rattle.warp_run.specs.History.{IsReady, reach}
use Rattle.warp_run.specs.declared.tip.Tip.{Tip}
use Rattle.warp_run.proofs.RowsFloor.{few_more, still_floor, still_from, still_near}
use Rattle.warp_run.proofs.RowsSaved.{last_more, state_more, saved_more}

-- where an event stands at a tag, something is given
given_some : (t : Moment) (E : List Event) → list_any (λ e. is_same t e.tag) E ≡ true → nat_lt 0 (length (given_at t E)) ≡ true
given_some t [] there = let never : false ≡ true = there in cc
given_some t (e ∷ E) there = elim (cases_Bool (is_same t e.tag)) [
  | inl here ↦ ap (λ es. nat_lt 0 (length (map given_of es))) (filter-here (λ d. is_same t d.tag) e E here) ∙ grind (arith, nat_tests)
  | inr other ↦
      let rest : list_any (λ d. is_same t d.tag) E ≡ true = grind (arith, nat_tests) in
      ap (λ es. nat_lt 0 (length (map given_of es))) (filter-past (λ d. is_same t d.tag) e E other) ∙ given_some t E rest
]

-- at the next tag something is given or pending
some_there : (E : List Event) (last : Option Moment) (s : Snapshot) (t : Moment) → IsNext E last s t
    → IsTrue (nat_lt 0 (length (given_at t E)) || list_any (λ w. is_same w.tag t) s.pending)
some_there E last s t next = elim (cases_Bool (list_any (λ e. is_same t e.tag) E)) [
  | inl event ↦ let some = given_some t E event in grind (arith, nat_tests)
  | inr none ↦
      let is = turned t s.pending in
      let waiting = next.waiting in
      grind (arith, nat_tests)
]

-- a step can be made at the next tag, with what is given there
pub can_step : (P : Program) (E : List Event) (x : Tip) (done : List Row) (tag : Moment) (X : List Given) → HasExecuted P E x done
    → IsNext E x.last x.state tag → X ≡ given_at tag E → CanGive P tag X → CanStep P x.state tag X
can_step P E x done tag X h next is can = record {
  state = h.ready.of_program;
  time = can.time;
  microstep = can.microstep;
  none_before = none_before E x.last x.state tag h.ready.later next;
  some = subst (λ (Y : List Given). IsTrue (nat_lt 0 (length Y) || list_any (λ w. is_same w.tag tag) x.state.pending)) (sym is)
      (some_there E x.last x.state tag next);
  inputs = can.inputs;
}

-- rows that begin a run still do so with one more at the next tag
pub begin_more : (P : Program) (E : List Event) (last : Option Moment) (s : Snapshot) (rows : List Row) (row : Row) → BeginFrom P E last s rows
    → IsNext E (last_after last rows) (state_at_end s rows) row.tag
    → Step P (state_at_end s rows) row.tag (given_at row.tag E) row.state row.outputs → BeginFrom P E last s (rows ++ row ∷ [])
begin_more P E last s [] row h next step = (next, step, tt)
begin_more P E last s (r ∷ rows) row h next step = (h.0, h.1, begin_more P E (Some r.tag) r.state rows row h.2 next step)

-- from one tip to the next by a step at a tag, where a checkpoint stands for the row
pub record Steps (P : Program) (x y : Tip) (tag : Moment) (X : List Given) (outs : List Out) : Type 0 where
  pub step : Step P x.state tag X y.state outs
  pub outputs : y.outputs.items ≡ x.outputs.items ++ outs
  pub rows : y.rows ≡ x.rows + 1
  pub last : y.last ≡ Some tag
  pub due : y.due ≡ x.due
  pub base : y.base ≡ x.base
  pub floor : y.floor ≡ x.floor
  pub history : y.history ≡ x.history
  pub scratch : y.scratch ≡ x.scratch
  pub ready : IsReady P (Some tag) y.state
  pub aside : y.aside ≡ x.aside
  pub room : x.rows + 1 ≤ reach x.base x.history.saves

-- then one more row is executed
pub stepped : (P : Program) (E : List Event) (x y : Tip) (done : List Row) (tag : Moment) (X : List Given) (outs : List Out)
    → Steps P x y tag X outs → HasExecuted P E x done → IsNext E x.last x.state tag → X ≡ given_at tag E → (row : Row) × HasExecuted P E y (done ++ row ∷ [])
stepped P E x y done tag X outs steps h next is =
    let row : Row = record { tag = tag; state = y.state; outputs = outs } in
    let there : IsNext E (last_after None done) (state_at_end (start_state P) done) tag =
    subst (λ (s : Snapshot). IsNext E (last_after None done) s tag) h.state (subst (λ (o : Option Moment). IsNext E o x.state tag) h.last next) in
    let step : Step P (state_at_end (start_state P) done) tag (given_at tag E) y.state outs =
    subst (λ (s : Snapshot). Step P s tag (given_at tag E) y.state outs) h.state
    (subst (λ (Y : List Given). Step P x.state tag Y y.state outs) is steps.step) in
    let few = steps.room in
    let more = steps.rows in
    let counted = h.rows in
    let longer = length-append done (row ∷ []) in (
      row,
      record {
        begin = begin_more P E None (start_state P) done row h.begin there step;
        rows = omega arith;
        last = steps.last ∙ sym (last_more None done row);
        state = sym (state_more (start_state P) done row);
        outputs = steps.outputs ∙ ap (λ (os : List Out). os ++ outs) h.outputs
            ∙ search (rules, flat_map-append (λ (r : Row). r.outputs) done (row ∷ []));
        ready = subst (λ (o : Option Moment). IsReady P o y.state) (sym steps.last) steps.ready;
        width = ap (λ (z : _). z.width) steps.history ∙ h.width;
        base = few_more y x done (row ∷ []) steps.base h.base;
        floor = still_floor y x done (row ∷ []) steps.base steps.floor h.base h.floor;
        from = still_from y x steps.base steps.history h.from;
        saved = subst (λ (n : ℕ). AreSaved n P (done ++ row ∷ []) y.history.saves) (sym steps.base)
            (subst (λ (z : _). AreSaved x.base P (done ++ row ∷ []) z.saves) (sym steps.history)
            (saved_more x.base P done (row ∷ []) x.history.saves h.saved));
        near = still_near y x y.rows steps.base steps.history (omega arith);
        due = still_near y x y.due steps.base steps.history (subst (λ (n : ℕ). n ≤ reach x.base x.history.saves) (sym steps.due) h.due);
        aside_width = ap (λ (z : _). z.history.width) steps.aside ∙ h.aside_width;
        aside = subst (λ (z : _). AreAside P E z.first z.outputs z.history.saves) (sym steps.aside) h.aside;
        scratch = steps.scratch ∙ h.scratch;
      },
    )
