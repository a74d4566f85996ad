-- What a change of its table does to what a `Plain` stands for.
use Rattle.std.proofs.Common.{◌≡◌, ◌↔◌, ℕ, ◌+◌, ◌<◌, ◌≤◌, length, List, [], ap, sym, subst, ◌∙◌, refl, arith, IsTrue, Bool, true, false, not, ◌&&◌, None, inl, inr}
use Rattle.std.specs.Prelude.{MatchBool}
use Rattle.std.specs.List.{list_all}
use Rattle.std.proofs.Math.Bool.{and-true, and-false}
use Rattle.std.proofs.lemmas.Bool.{cases_Bool, MatchBool-at_false}
use Rattle.std.proofs.lemmas.List.{append-nil}
use Rattle.std.proofs.lemmas.List.Sums.{count_by-le-length}
use Rattle.warp_tag.specs.Limits.{most_names}
use Rattle.warp_tag.specs.Moment.{Moment, is_before}
use Rattle.warp_tag.specs.Table.{Event, IsTable, changed, live}
use Rattle.warp_tag.specs.declared.entry.Entry.{Entry}
use Rattle.warp_step.specs.Program.{Program}
use Rattle.warp_step.specs.Snapshot.{start_state}
use Rattle.warp_step.specs.Run.{Row, Run}
use Rattle.warp_step.specs.Valid.{is_valid}
use Rattle.warp_step.proofs.TagsOfRun.{few_rows}
use Rattle.warp_step.proofs.ValidLemmas.{validity}
use Rattle.warp_step.proofs.TraceExists.{exists}
use Rattle.warp_step.proofs.TraceLemmas.{one_rest}
use Rattle.warp_line.specs.Timeline.{Standing, IsDone, NowStands, Settles, rows_before, lesser}
use Rattle.warp_step.specs.Events.{event_fits}
use Rattle.warp_line.specs.Plain.{StandsFor, IsRun}
use Rattle.warp_line.specs.declared.plain.Plain.{Plain}
use Rattle.warp_line.specs.declared.progress.Progress.{Progress}
use Rattle.warp_line.specs.declared.progress.Progress.TheVariants.{Settled, Paused}

-- where it is settled all rows are done
pub run_of : (p : Plain) (m : Standing) → p.settled ≡ true → StandsFor p m → IsRun p m
run_of p m settled h = subst (λ (b : Bool). MatchBool b (IsRun p m) (m.done ≡ [])) settled h.rows

-- a settled value is settled again at no cost
pub settled_stands : (p : Plain) (m : Standing) → p.settled ≡ true → StandsFor p m
    → (done : List Row) × Settles StandsFor p m 0 done × (Settled ≡ Settled ↔ IsDone (record m { done = done }))
settled_stands p m settled h =
    let r = run_of p m settled h in (
      m.done,
      record {
        stands = h;
        kept = omega arith;
        bound = λ trace run.
            let same : trace ≡ m.done = one_rest m.program (live m.table) None (start_state m.program) trace m.done run r.done in
            let lengths : length trace ≡ length m.done = ap length same in
            omega arith;
      },
      ((λ settled. r.done), (λ done. refl)),
    )

-- where more rows wait than were executed nothing is known to be done
pub paused_stands : (p : Plain) (m : Standing) (ticks : ℕ) → p.settled ≡ false → StandsFor p m → ((trace : List Row) → Run m.program (live m.table) trace → ticks < length trace)
    → (done : List Row) × Settles StandsFor p m ticks done × (Paused ≡ Settled ↔ IsDone (record m { done = done }))
paused_stands p m ticks unsettled h waits =
    let none : m.done ≡ [] = MatchBool-at_false _ _ unsettled h.rows in
    let lengths : length m.done ≡ 0 = ap (λ (rows : List Row). length rows) none in (
      m.done,
      record {
        stands = h;
        kept = omega arith;
        bound = λ trace run. let more = waits trace run in omega arith;
      },
      ((λ settled. cc), (λ done. let more = waits m.done done in absurd (omega arith))),
    )

-- no run has more rows than there may be names
pub all_settled : (q : Plain) (m : Standing) (ticks most : ℕ) (done : List Row) (p : Progress) → Settles StandsFor q m ticks done → most_names < most → (p ≡ Paused → ticks ≡ most)
    → p ≡ Settled
all_settled q m ticks most done Settled s more is = refl
all_settled q m ticks most done Paused s more is =
    let limits = (validity m.program s.stands.program).limits in
    let trace = exists m.program (live m.table) in
    let few : length trace.0 ≤ most_names = few_rows m.program (live m.table) trace.0 limits.stop limits.top s.stands.events trace.1 in
    let bound = s.bound trace.0 trace.1 in
    let ticked = is refl in
    absurd (omega arith)

-- a valid program has few rows before any tag
few_before : (P : Program) (E : List Event) (trace : List Row) (u : Moment) (n : ℕ) → IsTrue (is_valid P) → IsTrue (list_all (event_fits P) E) → Run P E trace → rows_before u trace ≤ n + most_names
few_before P E trace u n valid fits run =
    let limits = (validity P valid).limits in
    let all : length trace ≤ most_names = few_rows P E trace limits.stop limits.top fits run in
    let some = count_by-le-length (λ (row : Row). is_before row.tag u) trace in
    omega arith

-- so before any tag few rows of a settled value are done
pub few_done : (p : Plain) (m : Standing) (u : Moment) (n : ℕ) → p.settled ≡ true → StandsFor p m → rows_before u m.done ≤ n + most_names
few_done p m u n settled h = few_before m.program (live m.table) m.done u n h.program h.events (run_of p m settled h).done

-- nor are more rows done, settled or not
all_few : (p : Plain) (m : Standing) → StandsFor p m → length m.done ≤ most_names
all_few p m h = elim (cases_Bool p.settled) [
  | inl settled ↦
      let limits = (validity m.program h.program).limits in
      few_rows m.program (live m.table) m.done limits.stop limits.top h.events (run_of p m settled h).done
  | inr not_yet ↦
      let none : m.done ≡ [] = MatchBool-at_false _ _ not_yet h.rows in
      let lengths : length m.done ≡ 0 = ap (λ (rows : List Row). length rows) none in
      omega arith
]

-- where the live events changed, nothing is known to be done
changed_stands : (p q : Plain) (m : Standing) (f : Entry → Entry) (origin : ℕ) (tag : Moment) → StandsFor p m
    → q.entries.items ≡ changed f origin tag p.entries.items → IsTable q.entries.items
    → (live q.entries.items ≡ live p.entries.items → ⊥) → IsTrue (list_all (event_fits m.program) (live (changed f origin tag m.table)))
    → q.settled ≡ false → NowStands StandsFor most_names most_names tag q m (changed f origin tag m.table)
changed_stands p q m f origin tag h is ordered differs fits unsettled =
    let table : q.entries.items ≡ changed f origin tag m.table = is ∙ ap (changed f origin tag) h.table in
    let new : Standing = record { program = m.program; table = changed f origin tag m.table; done = [] } in (
      [],
      record {
        program = h.program;
        table = table;
        ordered = subst IsTable table ordered;
        events = fits;
        rows = subst (λ (b : Bool). MatchBool b (IsRun q new) (new.done ≡ [])) (sym unsettled) refl;
      },
      record {
        front = λ before after rb ra u enough.
            few_before m.program (live (changed f origin tag m.table)) after (lesser tag u) 0 h.program fits ra;
        ahead = λ late. all_few p m h;
        unchanged = λ same. absurd (differs (ap live table ∙ same ∙ ap live (sym h.table)));
        idle = (m.done, refl);
      },
    )

carried : (p q : Plain) (m n : Standing) (b : Bool) → MatchBool b (IsRun p m) (m.done ≡ []) → (IsRun p m → IsRun q n) → MatchBool b (IsRun q n) (m.done ≡ [])
carried p q m n true h k = k h
carried p q m n false h k = h

-- where they stayed, what was done stays done
same_stands : (p q : Plain) (m : Standing) (f : Entry → Entry) (origin : ℕ) (tag : Moment) → StandsFor p m
    → q.entries.items ≡ changed f origin tag p.entries.items → IsTable q.entries.items
    → live q.entries.items ≡ live p.entries.items
    → q.settled ≡ p.settled → q.state ≡ p.state → q.outputs ≡ p.outputs → NowStands StandsFor most_names most_names tag q m (changed f origin tag m.table)
same_stands p q m f origin tag h is ordered same settled state outputs =
    let table : q.entries.items ≡ changed f origin tag m.table = is ∙ ap (changed f origin tag) h.table in
    let lives : live (changed f origin tag m.table) ≡ live m.table = ap live (sym table) ∙ same ∙ ap live h.table in
    let fits = subst (λ (E : List Event). IsTrue (list_all (event_fits m.program) E)) (sym lives) h.events in
    let new : Standing = record { program = m.program; table = changed f origin tag m.table; done = m.done } in (
      m.done,
      record {
        program = h.program;
        table = table;
        ordered = subst IsTable table ordered;
        events = fits;
        rows = subst (λ (b : Bool). MatchBool b (IsRun q new) (m.done ≡ [])) (sym settled) (carried p q m new p.settled h.rows
            (λ r. record {
              done = subst (λ (E : List Event). Run m.program E m.done) (sym lives) r.done;
              state = state ∙ r.state;
              outputs = ap (λ (v : _). v.items) outputs ∙ r.outputs;
            }));
      },
      record {
        front = λ before after rb ra u enough.
            few_before m.program (live (changed f origin tag m.table)) after (lesser tag u) (length m.done) h.program fits ra;
        ahead = λ late. omega arith;
        unchanged = λ kept. refl;
        idle = ([], sym (append-nil m.done));
      },
    )

-- after a change that tells whether the live events changed, and unsettles where they did
pub note_stands : (p q : Plain) (m : Standing) (f : Entry → Entry) (origin : ℕ) (tag : Moment) (changes : Bool) → StandsFor p m
    → q.entries.items ≡ changed f origin tag p.entries.items → IsTable q.entries.items
    → (changes ≡ false → live q.entries.items ≡ live p.entries.items)
    → (changes ≡ true → live q.entries.items ≡ live p.entries.items → ⊥)
    → IsTrue (list_all (event_fits m.program) (live (changed f origin tag m.table)))
    → q.settled ≡ (p.settled && not changes) → q.state ≡ p.state → q.outputs ≡ p.outputs → NowStands StandsFor most_names most_names tag q m (changed f origin tag m.table)
note_stands p q m f origin tag true h is ordered same differs fits settled state outputs =
    changed_stands p q m f origin tag h is ordered (differs refl) fits (settled ∙ and-false p.settled)
note_stands p q m f origin tag false h is ordered same differs fits settled state outputs =
    same_stands p q m f origin tag h is ordered (same refl) (settled ∙ and-true p.settled) state outputs

-- where the live events are those that they were, it stays settled
pub stays_settled : (p : Plain) (items : List Entry) (settled : Bool) (m : Standing) (f : Entry → Entry) (origin : ℕ) (tag : Moment) (changes : Bool)
    → StandsFor p m → items ≡ changed f origin tag p.entries.items → (changes ≡ true → live items ≡ live p.entries.items → ⊥)
    → settled ≡ (p.settled && not changes) → live (changed f origin tag m.table) ≡ live m.table → settled ≡ p.settled
stays_settled p items settled m f origin tag true h is differs made same =
    absurd (differs refl (ap live (is ∙ ap (changed f origin tag) h.table) ∙ same ∙ ap live (sym h.table)))
stays_settled p items settled m f origin tag false h is differs made same = made ∙ and-true p.settled
