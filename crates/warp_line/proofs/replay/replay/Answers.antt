-- each turn goes on by what stands at one tag
use Rattle.std.proofs.Common.{rules, arith, ap, refl, true, ◌≡◌, ◌∙◌, ◌+◌, ◌-◌, ◌<◌, ◌≤◌, List, [], Some, None, length, drop, take, map, sym, subst, IsTrue}
use Rattle.std.specs.List.{list_all}
use Rattle.warp_tag.specs.Table.{live, IsTable}
use Rattle.warp_tag.specs.declared.entry.Entry.{Entry}
use Rattle.warp_step.specs.Snapshot.{Snapshot, least_pending, start_state}
use Rattle.warp_step.specs.Run.{given_of}
use Rattle.warp_step.specs.Events.{event_fits}
use Rattle.warp_step.specs.declared.given_input.Given.{Given}
use Rattle.warp_tag.specs.declared.out.Out.{Out}
use Rattle.warp_line.specs.inner.Replay.{StepsWhereWaiting, Passes, is_waiting, next_of}
use Rattle.warp_line.proofs.NextLemmas.{next_entries, next_pending, none_next}
use Rattle.warp_line.proofs.ReplayLemmas.{can_step, fits_drop, fits_take, passes, table_drop, table_take}
use Rattle.warp_line.proofs.ProgressLemmas.{Progress, left_on, progress_start, progress_bound, progress_end, progress_on, progress_ends, progress_waits, rows_left}
use Rattle.warp_line.proofs.replay.replay.Goals as goal

pub rows-init : goal.rows-init
rows-init g c =
    let P = c.args.program.now in
    let started : c.in_ok-state.state ≡ start_state P = c.in_ok-state.ensures.state in
    let empty : c.new-outputs.result.items ≡ [] = c.new-outputs.ensures.items in
    let table = c.args.entries.now in
    let ticks = g.M.Meter.ticks c.args.meter.now in
    record {
      progress = subst (λ (s : Snapshot). Progress P table table s c.new-outputs.result.items ticks ticks) (sym started)
          (subst (λ (outs : List Out). Progress P table table (start_state P) outs ticks ticks) (sym empty) (progress_start P table ticks));
      table = c.requires.table;
      events = c.requires.events;
      state = c.in_ok-state.ensures.of_program;
      scratch = c.in_ok-scratch.ensures;
      left = refl;
    }

pub returns-in_err-count-clause-bound : goal.returns-in_err-count-clause-bound
returns-in_err-count-clause-bound g c = λ trace run.
    progress_bound c.args.program.now c.args.entries.now c.rows.rest.now c.rows.state c.rows.outputs.items _ _ c.rows.invariant.progress trace run

pub is_due-due-requires : goal.is_due-due-requires
is_due-due-requires g c =
    let next : next_of c.rows.rest.now (least_pending c.rows.state.pending) ≡ Some c.in-Some.tag = search rules in
    next_pending c.rows.rest.now c.rows.state.pending c.in-Some.tag next

-- where no row is left and one waits, the run has more
pub returns-in_default-one_less-clause-paused : goal.returns-in_default-one_less-clause-paused
returns-in_default-one_less-clause-paused g c = λ none.
    let P = c.args.program.now in
    let t = c.in-Some.tag in
    let n = c.in_ok-count.count in
    let rest = c.rows.rest.now in
    let s = c.rows.state in
    let before = g.M.Meter.ticks c.args.meter.now in
    let next : next_of rest (least_pending s.pending) ≡ Some t = search rules in
    let past : Passes t rest n = passes t rest n c.rows.invariant.table (next_entries rest (least_pending s.pending) t c.rows.invariant.table next)
    c.in_ok-count.ensures.within c.in_ok-count.ensures.here c.in_ok-count.ensures.other in
    let given : c.deref.result.now ≡ map given_of (live (take n rest)) = c.deref.ensures.value ∙ c.in_ok-count.ensures.given in
    let out = c.one_less.ensures.none c.in_default-one_less.is in
    let waiting = subst (λ (X : List Given). is_waiting t X s.pending ≡ true) given (sym c.is_due-due.ensures ∙ out.0) in
    let none_left : c.rows.left ≡ 0 = out.1 in
    let left = c.rows.invariant.left in (
      omega arith,
      (λ trace run.
          let more = progress_waits P c.args.entries.now rest s c.rows.outputs.items before _ n t c.rows.invariant.progress past (next_pending rest s.pending t next) waiting trace run in
          omega arith),
    )

pub returns-in_default-one_less-clause-bound : goal.returns-in_default-one_less-clause-bound
returns-in_default-one_less-clause-bound g c = λ trace run.
    progress_bound c.args.program.now c.args.entries.now c.rows.rest.now c.rows.state c.rows.outputs.items _ _ c.rows.invariant.progress trace run

pub advance-requires-clause-none_before : goal.advance-requires-clause-none_before
advance-requires-clause-none_before g c =
    let next : next_of c.rows.rest.now (least_pending c.rows.state.pending) ≡ Some c.in-Some.tag = search rules in
    next_pending c.rows.rest.now c.rows.state.pending c.in-Some.tag next

pub advance-requires-clause-can : goal.advance-requires-clause-can
advance-requires-clause-can g c = λ waiting.
    let P = c.args.program.now in
    let n = c.in_ok-count.count in
    let rest = c.rows.rest.now in
    let next : next_of rest (least_pending c.rows.state.pending) ≡ Some c.in-Some.tag = search rules in
    can_step P c.rows.state c.in-Some.tag (take n rest) c.deref-in-Some.result.now
    (table_take n rest c.rows.invariant.table) c.in_ok-count.ensures.here (fits_take P n rest c.rows.invariant.events)
    (c.deref-in-Some.ensures.value ∙ c.in_ok-count.ensures.given) c.rows.invariant.state (next_pending rest c.rows.state.pending c.in-Some.tag next) waiting

pub returns-in_err-advance-clause-bound : goal.returns-in_err-advance-clause-bound
returns-in_err-advance-clause-bound g c = λ trace run.
    let bound : g.M.Meter.ticks c.rows.meter ≤ g.M.Meter.ticks c.args.meter.now + length trace =
    progress_bound c.args.program.now c.args.entries.now c.rows.rest.now c.rows.state c.rows.outputs.items _ _ c.rows.invariant.progress trace run in
    let same : g.M.Meter.ticks c.advance.new.meter ≡ g.M.Meter.ticks c.rows.meter = search rules in
    omega arith

-- what one turn does
record Turn (g : Rattle.warp_line.proofs.replay.replay.Given.Over) (c : goal.After-skip-rest g) : Type 0 where
  next : next_of c.rows.rest.now (least_pending c.rows.state.pending) ≡ Some c.in-Some.tag
  passes : Passes c.in-Some.tag c.rows.rest.now c.in_ok-count.count
  goes : StepsWhereWaiting c.args.program.now c.in-Some.tag (map given_of (live (take c.in_ok-count.count c.rows.rest.now))) c.rows.state c.advance.new.state
      c.rows.outputs.items c.advance.new.outputs.items (g.M.Meter.ticks c.rows.meter) (g.M.Meter.ticks c.advance.new.meter)
  on : Progress c.args.program.now c.args.entries.now (drop c.in_ok-count.count c.rows.rest.now) c.advance.new.state c.advance.new.outputs.items
      (g.M.Meter.ticks c.args.meter.now) (g.M.Meter.ticks c.advance.new.meter)

turn : (g : Rattle.warp_line.proofs.replay.replay.Given.Over) (c : goal.After-skip-rest g) → Turn g c
turn g c =
    let P = c.args.program.now in
    let t = c.in-Some.tag in
    let n = c.in_ok-count.count in
    let rest = c.rows.rest.now in
    let s = c.rows.state in
    let next : next_of rest (least_pending s.pending) ≡ Some t = search rules in
    let past : Passes t rest n = passes t rest n c.rows.invariant.table (next_entries rest (least_pending s.pending) t c.rows.invariant.table next)
    c.in_ok-count.ensures.within c.in_ok-count.ensures.here c.in_ok-count.ensures.other in
    let given : c.deref-in-Some.result.now ≡ map given_of (live (take n rest)) = c.deref-in-Some.ensures.value ∙ c.in_ok-count.ensures.given in
    let goes = subst (λ (X : List Given). StepsWhereWaiting P t X s c.advance.new.state c.rows.outputs.items c.advance.new.outputs.items
    (g.M.Meter.ticks c.rows.meter) (g.M.Meter.ticks c.advance.new.meter)) given c.in_ok-advance.ensures.goes in
    record {
      next = next;
      passes = past;
      goes = goes;
      on = progress_on P c.args.entries.now rest s c.advance.new.state c.rows.outputs.items c.advance.new.outputs.items _ _ _ n t
          c.rows.invariant.progress past (next_pending rest s.pending t next) goes c.in_ok-advance.ensures.later;
    }

pub rows-preserved : goal.rows-preserved
rows-preserved g c =
    let P = c.args.program.now in
    let n = c.in_ok-count.count in
    let rest = c.rows.rest.now in
    let back : c.skip-rest.result.now ≡ drop n rest = c.skip-rest.ensures in
    record {
      progress = subst (λ (es : List Entry). Progress P c.args.entries.now es c.advance.new.state c.advance.new.outputs.items (g.M.Meter.ticks c.args.meter.now) (g.M.Meter.ticks c.advance.new.meter)) (sym back) (turn g c).on;
      table = subst (λ (es : List Entry). IsTable es) (sym back) (table_drop n rest c.rows.invariant.table);
      events = subst (λ (es : List Entry). IsTrue (list_all (event_fits P) (live es))) (sym back) (fits_drop P n rest c.rows.invariant.events);
      state = c.in_ok-advance.ensures.state;
      scratch = c.in_ok-advance.ensures.scratch ∙ c.rows.invariant.scratch;
      left = left_on c.is_due-due.result (is_waiting c.in-Some.tag c.deref-in-Some.result.now c.rows.state.pending) c.rows.left c.in-Some-one_less.after _ _ _ _
          (c.is_due-due.ensures ∙ ap (λ (X : List Given). is_waiting c.in-Some.tag X c.rows.state.pending) (c.deref.ensures.value ∙ sym c.deref-in-Some.ensures.value))
          (c.one_less.ensures.some c.in-Some-one_less.after c.in-Some-one_less.is) c.rows.invariant.left c.in_ok-advance.ensures.goes.ticked;
    }

pub rows-smaller : goal.rows-smaller
rows-smaller g c =
    let P = c.args.program.now in
    let n = c.in_ok-count.count in
    let rest = c.rows.rest.now in
    let ticks = g.M.Meter.ticks c.rows.meter in
    let before = g.M.Meter.ticks c.args.meter.now in
    let ticked = c.rows.invariant.progress.ticked in
    let from : before ≤ ticks = omega arith in
    let step = turn g c in
    let less = progress_ends P c.args.entries.now rest c.rows.state c.advance.new.state c.rows.outputs.items c.advance.new.outputs.items before ticks _ n c.in-Some.tag
    step.on step.passes step.goes step.next c.in_ok-count.ensures.other from in
    subst (λ (es : List Entry). length es + rows_left P c.args.entries.now (g.M.Meter.ticks c.advance.new.meter - before) < length rest + rows_left P c.args.entries.now (ticks - before))
    (sym c.skip-rest.ensures) less

pub returns-clause-ok : goal.returns-clause-ok
returns-clause-ok g c =
    let P = c.args.program.now in
    let rest = c.rows.rest.now in
    let s = c.rows.state in
    let none : next_of rest (least_pending s.pending) ≡ None = search rules in
    let empty = none_next rest s.pending none in
    let before = g.M.Meter.ticks c.args.meter.now in
    let ticks = g.M.Meter.ticks c.rows.meter in
    progress_end P c.args.entries.now s c.rows.outputs.items before ticks
    (subst (λ (es : List Entry). Progress P c.args.entries.now es s c.rows.outputs.items before ticks) empty.0 c.rows.invariant.progress) empty.1

pub returns-clause-bound : goal.returns-clause-bound
returns-clause-bound g c = λ trace run.
    progress_bound c.args.program.now c.args.entries.now c.rows.rest.now c.rows.state c.rows.outputs.items _ _ c.rows.invariant.progress trace run
