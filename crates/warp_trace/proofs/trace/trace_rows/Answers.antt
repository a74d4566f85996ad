-- each turn goes on by what stands at one tag, and tells its row where it has one
use Rattle.std.proofs.Common.{rules, arith, ◌≡◌, ◌∙◌, ◌+◌, ◌-◌, ◌<◌, ℕ, List, [], ◌++◌, Option, Result, Ok, Err, Some, None, length, drop, take, sym, ap, subst, refl, IsTrue, append_assoc}
use Rattle.std.proofs.KnownBytes.{Appends-nil, Appends-trans}
use Rattle.std.specs.List.{list_all}
use Rattle.warp_tag.specs.Moment.{Moment}
use Rattle.warp_tag.specs.Table.{live, IsTable}
use Rattle.warp_tag.specs.declared.entry.Entry.{Entry}
use Rattle.warp_step.specs.Program.{Program}
use Rattle.warp_step.specs.Snapshot.{Snapshot, least_pending, start_state}
use Rattle.warp_step.specs.Run.{Row, Run}
use Rattle.warp_step.specs.Events.{event_fits}
use Rattle.warp_step.proofs.TraceExists.{exists}
use Rattle.warp_step.proofs.TraceLemmas.{one_rest}
use Rattle.warp_line.specs.inner.Replay.{next_of}
use Rattle.warp_line.proofs.NextLemmas.{next_pending, none_next}
use Rattle.warp_line.proofs.ProgressLemmas.{rows_left}
use Rattle.warp_line.proofs.ReplayLemmas.{can_step, fits_drop, fits_take, table_drop, table_take}
use Rattle.warp_trace.specs.Labels.{Names}
use Rattle.std.specs.Io.KnownBytes.{Appends}
use Rattle.warp_trace.specs.Printed.{PrintsFront, PrintsText, piece}
use Rattle.warp_trace.specs.Trace.{row_lines}
use Rattle.warp_trace.specs.declared.printer.TraceFault.{TraceFault}
use Rattle.warp_trace.specs.declared.printer.TraceFault.TheVariants.{NoMemory, Output}
use Rattle.warp_trace.proofs.TraceText.{ended, failed, stopped}
use Rattle.warp_trace.proofs.TraceTurns.{Reached, next_passes, reached_end, reached_ends, reached_on, reached_start, tells_there, whole_lines}
use Rattle.warp_trace.proofs.trace.trace_rows.Goals as goal

-- what is said of the run's own rows is said of any rows of the run
of_any : {T : Type 0} (names : Names) (P : Program) (h : Moment) (entries : List Entry) (w w' : Option (List ℕ)) (f f' : ℕ) (r : Result T TraceFault)
    → PrintsText w w' f f' (whole_lines names P h entries) r → (rows : List Row) → Run P (live entries) rows
    → PrintsText w w' f f' (row_lines names P h (live entries) (start_state P) rows) r
of_any names P h entries w w' f f' r prints rows run =
    subst (λ (rs : List Row). PrintsText w w' f f' (row_lines names P h (live entries) (start_state P) rs) r)
    (one_rest P (live entries) None (start_state P) (exists P (live entries)).0 rows (exists P (live entries)).1 run) prints

pub rows-init : goal.rows-init
rows-init g c =
    let P = c.args.program.now in
    let names = c.args.labels.now in
    let table = c.args.entries.now in
    let ticks = g.M.Meter.ticks c.args.meter.now in
    record {
      sent = [];
      out = Appends-nil (g.O.Printer.written c.args.out.now);
      sound = refl;
      kept = refl;
      short = subst (λ (l : List ℕ). length l < piece) (sym c.requires.text) (omega arith);
      reached = subst (λ (s : Snapshot). Reached names P c.args.horizon table table s c.args.work.now.text.items ticks ticks) (sym c.requires.start)
          (subst (λ (l : List ℕ). Reached names P c.args.horizon table table (start_state P) l ticks ticks) (sym c.requires.text) (reached_start names P c.args.horizon table ticks));
      table = c.requires.table;
      events = c.requires.events;
      state = c.requires.state;
      scratch = c.requires.scratch;
    }

pub returns-in_default-gather-clause-prints : goal.returns-in_default-gather-clause-prints
returns-in_default-gather-clause-prints g c =
    let was = c.rows.invariant in
    let reached = was.reached in
    of_any {T = ℕ} c.args.labels.now c.args.program.now c.args.horizon c.args.entries.now (g.O.Printer.written c.args.out.now) (g.O.Printer.written c.rows.out) (g.O.Printer.failures c.args.out.now) (g.O.Printer.failures c.rows.out) (Err NoMemory)
    (stopped (g.O.Printer.written c.args.out.now) (g.O.Printer.written c.rows.out) (g.O.Printer.failures c.args.out.now) (g.O.Printer.failures c.rows.out)
    was.sent c.rows.work.text.items (row_lines c.args.labels.now c.args.program.now c.args.horizon (live c.args.entries.now) c.rows.work.state reached.left)
    (whole_lines c.args.labels.now c.args.program.now c.args.horizon c.args.entries.now) was.out was.sound reached.lines)

pub returns-in_default-tell_tag-clause-prints : goal.returns-in_default-tell_tag-clause-prints
returns-in_default-tell_tag-clause-prints g c =
    let was = c.rows.invariant in
    let reached = was.reached in
    of_any {T = ℕ} c.args.labels.now c.args.program.now c.args.horizon c.args.entries.now (g.O.Printer.written c.args.out.now) (g.O.Printer.written c.rows.out) (g.O.Printer.failures c.args.out.now) (g.O.Printer.failures c.rows.out) (Err NoMemory)
    (stopped (g.O.Printer.written c.args.out.now) (g.O.Printer.written c.rows.out) (g.O.Printer.failures c.args.out.now) (g.O.Printer.failures c.rows.out)
    was.sent c.rows.work.text.items (row_lines c.args.labels.now c.args.program.now c.args.horizon (live c.args.entries.now) c.rows.work.state reached.left)
    (whole_lines c.args.labels.now c.args.program.now c.args.horizon c.args.entries.now) was.out was.sound reached.lines)

pub tell_tag-requires-clause-none_before : goal.tell_tag-requires-clause-none_before
tell_tag-requires-clause-none_before g c =
    let next : next_of c.rows.rest.now (least_pending c.rows.work.state.pending) ≡ Some c.in-Some.tag = search rules in
    next_pending c.rows.rest.now c.rows.work.state.pending c.in-Some.tag next

pub tell_tag-requires-clause-can : goal.tell_tag-requires-clause-can
tell_tag-requires-clause-can g c = λ waiting.
    let P = c.args.program.now in
    let n = c.in-Ok.count in
    let rest = c.rows.rest.now in
    let next : next_of rest (least_pending c.rows.work.state.pending) ≡ Some c.in-Some.tag = search rules in
    can_step P c.rows.work.state c.in-Some.tag (take n rest) c.gather.new.given.items
    (table_take n rest c.rows.invariant.table) c.in-Ok.ensures.here (fits_take P n rest c.rows.invariant.events)
    c.in-Ok.ensures.given c.rows.invariant.state (next_pending rest c.rows.work.state.pending c.in-Some.tag next) waiting

pub returns-in_default-print_full-clause-prints : goal.returns-in_default-print_full-clause-prints
returns-in_default-print_full-clause-prints g c =
    let P = c.args.program.now in
    let names = c.args.labels.now in
    let h = c.args.horizon in
    let entries = c.args.entries.now in
    let t = c.in-Some.tag in
    let n = c.in-Ok.count in
    let rest = c.rows.rest.now in
    let s = c.rows.work.state in
    let s' = c.tell_tag.new.work.state in
    let was = c.rows.invariant in
    let old = c.rows.work.text.items in
    let new = c.tell_tag.new.work.text.items in
    let before = g.M.Meter.ticks c.args.meter.now in
    let now = g.M.Meter.ticks c.rows.meter in
    let now' = g.M.Meter.ticks c.tell_tag.new.meter in
    let next : next_of rest (least_pending s.pending) ≡ Some t = search rules in
    let past = next_passes rest s t n was.table next c.in-Ok.ensures.within c.in-Ok.ensures.here c.in-Ok.ensures.other in
    let tells = tells_there names P h t rest c.front-here.result.now n c.gather.new.given.items s s' old new now now' c.front-here.ensures c.in-Ok.ensures.given c.in-Ok-tell_tag.ensures.tells in
    let on = reached_on names P h entries before rest s s' was.sent old new now now' n t was.reached past (next_pending rest s.pending t next) tells c.in-Ok-tell_tag.ensures.later in
    of_any {T = ℕ} names P h entries (g.O.Printer.written c.args.out.now) (g.O.Printer.written c.print_full.new.out) (g.O.Printer.failures c.args.out.now) (g.O.Printer.failures c.print_full.new.out) (Err Output)
    (failed (g.O.Printer.written c.args.out.now) (g.O.Printer.written c.rows.out) (g.O.Printer.written c.print_full.new.out)
    (g.O.Printer.failures c.args.out.now) (g.O.Printer.failures c.rows.out) (g.O.Printer.failures c.print_full.new.out)
    was.sent new (row_lines names P h (live entries) s' on.left) (whole_lines names P h entries) was.out was.sound on.lines
    c.in_default-print_full.ensures.front c.in_default-print_full.ensures.failures)

pub rows-preserved : goal.rows-preserved
rows-preserved g c =
    let P = c.args.program.now in
    let names = c.args.labels.now in
    let h = c.args.horizon in
    let entries = c.args.entries.now in
    let t = c.in-Some.tag in
    let n = c.in-Ok.count in
    let rest = c.rows.rest.now in
    let s = c.rows.work.state in
    let s' = c.tell_tag.new.work.state in
    let was = c.rows.invariant in
    let old = c.rows.work.text.items in
    let new = c.tell_tag.new.work.text.items in
    let before = g.M.Meter.ticks c.args.meter.now in
    let now = g.M.Meter.ticks c.rows.meter in
    let now' = g.M.Meter.ticks c.tell_tag.new.meter in
    let next : next_of rest (least_pending s.pending) ≡ Some t = search rules in
    let past = next_passes rest s t n was.table next c.in-Ok.ensures.within c.in-Ok.ensures.here c.in-Ok.ensures.other in
    let tells = tells_there names P h t rest c.front-here.result.now n c.gather.new.given.items s s' old new now now' c.front-here.ensures c.in-Ok.ensures.given c.in-Ok-tell_tag.ensures.tells in
    let on = reached_on names P h entries before rest s s' was.sent old new now now' n t was.reached past (next_pending rest s.pending t next) tells c.in-Ok-tell_tag.ensures.later in
    let back : c.skip-rest.result.now ≡ drop n rest = c.skip-rest.ensures in
    let more = c.in-Ok-print_full.ensures.sent in
    let waits = c.print_full.new.text.items in
    let joined : was.sent ++ new ≡ (was.sent ++ more.0) ++ waits = ap (λ l. was.sent ++ l) (sym more.2) ∙ sym (append_assoc was.sent more.0 waits) in
    record {
      sent = was.sent ++ more.0;
      out = Appends-trans _ _ _ was.sent more.0 was.out more.1;
      sound = c.in-Ok-print_full.ensures.failures ∙ was.sound;
      kept = c.print_full.ensures.kept ∙ was.kept;
      short = c.in-Ok-print_full.ensures.short;
      reached = subst (λ (es : List Entry). Reached names P h entries es s' ((was.sent ++ more.0) ++ waits) before now') (sym back)
          (subst (λ (l : List ℕ). Reached names P h entries (drop n rest) s' l before now') joined on);
      table = subst (λ (es : List Entry). IsTable es) (sym back) (table_drop n rest was.table);
      events = subst (λ (es : List Entry). IsTrue (list_all (event_fits P) (live es))) (sym back) (fits_drop P n rest was.events);
      state = c.in-Ok-tell_tag.ensures.state;
      scratch = c.in-Ok-tell_tag.ensures.scratch ∙ was.scratch;
    }

pub rows-smaller : goal.rows-smaller
rows-smaller g c =
    let P = c.args.program.now in
    let names = c.args.labels.now in
    let h = c.args.horizon in
    let entries = c.args.entries.now in
    let t = c.in-Some.tag in
    let n = c.in-Ok.count in
    let rest = c.rows.rest.now in
    let s = c.rows.work.state in
    let s' = c.tell_tag.new.work.state in
    let was = c.rows.invariant in
    let old = c.rows.work.text.items in
    let new = c.tell_tag.new.work.text.items in
    let before = g.M.Meter.ticks c.args.meter.now in
    let now = g.M.Meter.ticks c.rows.meter in
    let now' = g.M.Meter.ticks c.tell_tag.new.meter in
    let next : next_of rest (least_pending s.pending) ≡ Some t = search rules in
    let past = next_passes rest s t n was.table next c.in-Ok.ensures.within c.in-Ok.ensures.here c.in-Ok.ensures.other in
    let tells = tells_there names P h t rest c.front-here.result.now n c.gather.new.given.items s s' old new now now' c.front-here.ensures c.in-Ok.ensures.given c.in-Ok-tell_tag.ensures.tells in
    let on = reached_on names P h entries before rest s s' was.sent old new now now' n t was.reached past (next_pending rest s.pending t next) tells c.in-Ok-tell_tag.ensures.later in
    subst (λ (es : List Entry). length es + rows_left P entries (now' - before) < length rest + rows_left P entries (now - before)) (sym c.skip-rest.ensures)
    (reached_ends names P h entries before rest s s' [] (was.sent ++ new) old new now now' n t on past tells next c.in-Ok.ensures.other was.reached.from)

pub returns-in-Ok-print-clause-prints : goal.returns-in-Ok-print-clause-prints
returns-in-Ok-print-clause-prints g c =
    let P = c.args.program.now in
    let names = c.args.labels.now in
    let h = c.args.horizon in
    let entries = c.args.entries.now in
    let rest = c.rows.rest.now in
    let s = c.rows.work.state in
    let was = c.rows.invariant in
    let text = c.rows.work.text.items in
    let none : next_of rest (least_pending s.pending) ≡ None = search rules in
    let empty = none_next rest s.pending none in
    let all = reached_end names P h entries s (was.sent ++ text) (g.M.Meter.ticks c.args.meter.now) (g.M.Meter.ticks c.rows.meter)
    (subst (λ (es : List Entry). Reached names P h entries es s (was.sent ++ text) (g.M.Meter.ticks c.args.meter.now) (g.M.Meter.ticks c.rows.meter)) empty.0 was.reached) empty.1 in
    of_any {T = ℕ} names P h entries (g.O.Printer.written c.args.out.now) (g.O.Printer.written c.print.new.self) (g.O.Printer.failures c.args.out.now) (g.O.Printer.failures c.print.new.self) (Ok 0)
    (ended {T = ℕ} (g.O.Printer.written c.args.out.now) (g.O.Printer.written c.rows.out) (g.O.Printer.written c.print.new.self)
    (g.O.Printer.failures c.args.out.now) (g.O.Printer.failures c.rows.out) (g.O.Printer.failures c.print.new.self)
    was.sent text (whole_lines names P h entries) 0 was.out was.sound all
    (subst (Appends (g.O.Printer.written c.rows.out) (g.O.Printer.written c.print.new.self)) c.deref.ensures.value c.in-Ok-print.ensures.all) c.in-Ok-print.ensures.failures)

pub returns-in-Err-clause-prints : goal.returns-in-Err-clause-prints
returns-in-Err-clause-prints g c =
    let P = c.args.program.now in
    let names = c.args.labels.now in
    let h = c.args.horizon in
    let entries = c.args.entries.now in
    let was = c.rows.invariant in
    let text = c.rows.work.text.items in
    of_any {T = ℕ} names P h entries (g.O.Printer.written c.args.out.now) (g.O.Printer.written c.print.new.self) (g.O.Printer.failures c.args.out.now) (g.O.Printer.failures c.print.new.self) (Err Output)
    (failed (g.O.Printer.written c.args.out.now) (g.O.Printer.written c.rows.out) (g.O.Printer.written c.print.new.self)
    (g.O.Printer.failures c.args.out.now) (g.O.Printer.failures c.rows.out) (g.O.Printer.failures c.print.new.self)
    was.sent text (row_lines names P h (live entries) c.rows.work.state was.reached.left) (whole_lines names P h entries) was.out was.sound was.reached.lines
    (subst (PrintsFront (g.O.Printer.written c.rows.out) (g.O.Printer.written c.print.new.self)) c.deref.ensures.value c.in-Err.ensures.front) c.in-Err.ensures.failures)
