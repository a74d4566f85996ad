-- One turn: what is given at the next tag may be stepped with, and the cursor goes behind it.
use Rattle.std.proofs.Common.{◌≡◌, inl, inr, ◌<◌, true, false, ◌&&◌, ◌||◌, nat_lt, not, List, [], ◌∷◌, ◌++◌, length, map, ap, sym, subst, ◌∙◌, refl, arith, filter, IsTrue, Option, Some, None}
use Rattle.std.specs.List.{list_all, list_any}
use Rattle.std.proofs.lemmas.Map.Views.{any-filter_same}
use Rattle.std.proofs.lemmas.Bool.{cases_Bool}
use Rattle.std.proofs.lemmas.Bool.Decides.{nat_tests}
use Rattle.std.proofs.lemmas.List.{append-nil}
use Rattle.warp_tag.specs.Limits.{most_names}
use Rattle.warp_tag.specs.Moment.{Moment, is_before, is_same}
use Rattle.warp_tag.specs.Table.{Event, IsTable, live}
use Rattle.warp_tag.specs.declared.entry.Entry.{Entry}
use Rattle.warp_arena.specs.Places.{Contents, IsOrdered, Reaches, entries_of}
use Rattle.warp_arena.proofs.Tables.{IsTable-filter}
use Rattle.warp_step.specs.Events.{event_fits}
use Rattle.warp_step.specs.Snapshot.{Snapshot, start_state}
use Rattle.warp_step.specs.Step.{CanStep}
use Rattle.warp_tag.proofs.Tags.{same_is}
use Rattle.warp_step.specs.Run.{Row, IsNext, given_at, given_of, is_after, state_at_end, waits}
use Rattle.warp_step.specs.declared.given_input.Given.{Given}
use Rattle.warp_step.proofs.TagsOfRun.{none_before, waits_after}
use Rattle.warp_line.specs.Timeline.{Standing, IsDone}
use Rattle.warp_line.specs.Begin.{last_after}
use Rattle.warp_line.specs.inner.Replay.{is_waiting}
use Rattle.warp_line.proofs.ReplayLemmas.{can_step}
use Rattle.warp_line.proofs.RunLemmas.{stands}
use Rattle.warp_run.specs.Tip.{CanGive, HasExecuted}
use Rattle.warp_run.specs.Skips.{AreFree}
use Rattle.warp_run.specs.Walk.{AreThrough, ahead, given_by, through}
use Rattle.warp_run.specs.Warp.{StandsFor, ahead_of}
use Rattle.warp_run.specs.declared.skips.Skips.{Skips}
use Rattle.warp_run.specs.declared.warp.Warp.{Warp}
use Rattle.warp_run.proofs.TurnsLive.{ahead_twice, all_kept, at_next, live_kept, live_places}
use Rattle.warp_line.proofs.ProgressLemmas.{turned}
use Rattle.warp_run.proofs.TurnsRuns.{begin_few}
use Rattle.warp_run.proofs.TurnsWarp.{ahead_events}

-- entries of one tag are
all_same : (t : Moment) (es : List Entry) → IsTrue (list_all (λ d. is_same t d.tag) (filter (λ d. is_same t d.tag) es))
all_same t [] = refl
all_same t (e ∷ es) =
    let rest = all_same t es in
    elim (cases_Bool (is_same t e.tag)) [ inl h ↦ rw h (grind (arith, nat_tests)) | inr h ↦ rw h rest ]

-- where something stands at a tag, something is given there
stands_given : (t : Moment) (E : List Event) → stands t E ≡ true → nat_lt 0 (length (given_at t E)) ≡ true
stands_given t [] h = let never : false ≡ true = h in cc
stands_given t (e ∷ E) h = elim (cases_Bool (is_same t e.tag)) [
  | inl here ↦ rw here (grind (arith, nat_tests))
  | inr away ↦ let rest : stands t E ≡ true = grind (arith, nat_tests) in rw away (stands_given t E rest)
]

waiting_given : (E : List Event) (last : Option Moment) (s : Snapshot) (t : Moment) → IsNext E last s t
    → IsTrue (is_waiting t (given_at t E) s.pending)
waiting_given E last s t next =
    let waiting = next.waiting in
    let same = turned t s.pending in
    elim (cases_Bool (stands t E)) [
      | inl here ↦ let given = stands_given t E here in grind (arith, nat_tests)
      | inr away ↦ grind (arith, nat_tests)
    ]

-- a value with the same arena, of which these rows are done
pub stands_on : (w v : Warp) (m : Standing) (done : List Row) → StandsFor w m → v.arena ≡ w.arena → v.tip.floor ≡ w.tip.floor → HasExecuted m.program (live m.table) v.tip done
    → Reaches w.arena.places (ahead v.tip.last w.arena.places) v.cursor → AreThrough v.latest (live m.table)
    → (IsTrue v.settled → IsDone (record m { done = done })) → v.skips ≡ w.skips → StandsFor v (record m { done = done })
stands_on w v m done h arena floor tip cursor latest settled skips = record {
  program = h.program;
  origins = ap (λ (a : Contents). a.origins) arena ∙ h.origins;
  table = ap (λ (a : Contents). entries_of a.places) arena ∙ h.table ∙ ap (λ (o : Option Moment). ahead_of o m.table) (sym floor);
  ordered = h.ordered;
  events = h.events;
  tip = tip;
  cursor = subst (λ (a : Contents). Reaches a.places (ahead v.tip.last a.places) v.cursor) (sym arena) cursor;
  latest = latest;
  settled = settled;
  skips = subst (λ (s : Skips). AreFree s (live m.table)) (sym skips) h.skips;
}

-- where no row was done more
pub stays : (w v : Warp) (m : Standing) → StandsFor w m → v.arena ≡ w.arena → v.tip.floor ≡ w.tip.floor → HasExecuted m.program (live m.table) v.tip m.done
    → Reaches w.arena.places (ahead v.tip.last w.arena.places) v.cursor → v.latest ≡ w.latest → v.settled ≡ w.settled
    → v.skips ≡ w.skips → StandsFor v (record m { done = m.done ++ [] })
stays w v m h arena floor tip cursor latest settled skips =
    subst (λ (rows : List Row). StandsFor v (record m { done = rows })) (sym (append-nil m.done))
    (stands_on w v m m.done h arena floor tip cursor (subst (λ (l : Option Moment). AreThrough l (live m.table)) (sym latest) h.latest)
    (λ is. h.settled (sym settled ∙ is)) skips)

-- where the events after the last row are the same, so is what waits
waits_ahead : (last : Option Moment) (s : Snapshot) (D E : List Event) → filter (λ e. is_after last e.tag) D ≡ filter (λ e. is_after last e.tag) E
    → (t : Moment) → waits D last s t ≡ waits E last s t
waits_ahead last s D E same t = elim (cases_Bool (is_after last t)) [
  | inl later ↦
      let at = (λ (e : Event). is_same t e.tag) in
      let kept = any-filter_same at (λ (e : Event). is_after last e.tag) true (λ e here. ap (is_after last) (sym (same_is t e.tag here)) ∙ later) in
      ap (λ b. is_after last t && (b || list_any (λ w. is_same t w.tag) s.pending)) (sym (kept D) ∙ ap (list_any at) same ∙ kept E)
  | inr early ↦ rw early refl
]

-- so the next tag of one standing is that of each that the value has
pub same_next : (w : Warp) (m n : Standing) (t : Moment) → StandsFor w m → StandsFor w n → IsNext (live m.table) w.tip.last w.tip.state t
    → IsNext (live n.table) w.tip.last w.tip.state t
same_next w m n t h k next =
    let same = waits_ahead w.tip.last w.tip.state (live m.table) (live n.table) (sym (ahead_events w m h) ∙ ahead_events w n k) in
    record {
      waiting = sym (same t) ∙ next.waiting;
      least = λ u waiting. next.least u (same u ∙ waiting);
    }

module _ (w : Warp) (m : Standing) (h : StandsFor w m) (t : Moment) (next : IsNext (live m.table) w.tip.last w.tip.state t) where
  -- what the places up to the next tag give is what is given at it
  given_next : given_by (through t (ahead w.tip.last w.arena.places)) ≡ given_at t (live m.table)
  given_next =
      ap (map given_of) (live_places (λ u. not (is_before t u)) (ahead w.tip.last w.arena.places)
      ∙ ap (filter (λ (e : Event). not (is_before t e.tag))) (ahead_events w m h)
      ∙ at_next (live m.table) w.tip.last w.tip.state t next)

  -- so it is where just that is gathered
  pub given_is : (X Y : List Given) → X ≡ Y → Y ≡ given_by (through t (ahead w.tip.last w.arena.places)) → X ≡ given_at t (live m.table)
  given_is X Y same gathered = same ∙ gathered ∙ given_next

  -- and a step can be made with it
  pub can_give : (X : List Given) → IsOrdered w.arena → X ≡ given_at t (live m.table) → CanGive m.program t X
  can_give X ordered is =
      let table : IsTable m.table = h.ordered in
      let es : List Entry = filter (λ d. is_same t d.tag) m.table in
      let lives : live es ≡ filter (λ e. is_same t e.tag) (live m.table) = live_kept (is_same t) m.table in
      let fits : IsTrue (list_all (event_fits m.program) (live es)) =
      subst (λ (E : List Event). IsTrue (list_all (event_fits m.program) E)) (sym lives)
      (all_kept (λ (e : Event). is_same t e.tag) (event_fits m.program) (live m.table) h.events) in
      let waiting : IsTrue (is_waiting t X w.tip.state.pending) =
      subst (λ (Y : List Given). IsTrue (is_waiting t Y w.tip.state.pending)) (sym is)
      (waiting_given (live m.table) w.tip.last w.tip.state t next) in
      let can : CanStep m.program w.tip.state t X =
      can_step m.program w.tip.state t es X (IsTable-filter (λ (d : Entry). is_same t d.tag) m.table table) (all_same t m.table) fits
      (is ∙ ap (map given_of) (sym lives)) h.tip.ready.of_program
      (none_before (live m.table) w.tip.last w.tip.state t h.tip.ready.later next) waiting in
      record { time = can.time; microstep = can.microstep; inputs = can.inputs }

  -- there are fewer rows than names
  pub few : w.tip.rows < most_names
  few =
      let there : IsNext (live m.table) (last_after None m.done) (state_at_end (start_state m.program) m.done) t =
      subst (λ (l : Option Moment). IsNext (live m.table) l (state_at_end (start_state m.program) m.done) t) h.tip.last
      (subst (λ (s : Snapshot). IsNext (live m.table) w.tip.last s t) h.tip.state next) in
      let less = begin_few m.program (live m.table) m.done t h.program h.events h.tip.begin there in
      let rows = h.tip.rows in
      omega arith

  -- after the row the cursor is at the first place after it
  pub cursor_next : (at : _) → Reaches w.arena.places (ahead (Some t) (ahead w.tip.last w.arena.places)) at → (last : Option Moment) → last ≡ Some t
      → Reaches w.arena.places (ahead last w.arena.places) at
  cursor_next at reaches last is =
      subst (λ (l : Option Moment). Reaches w.arena.places (ahead l w.arena.places) at) (sym is)
      (subst (λ places. Reaches w.arena.places places at)
      (ahead_twice w.tip.last t w.arena.places (waits_after (live m.table) w.tip.last w.tip.state t next.waiting)) reaches)
