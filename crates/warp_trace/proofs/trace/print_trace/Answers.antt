-- the names of the log are its table, and what is printed of all rows of the run over it is its trace
use Rattle.std.proofs.Common.{◌∙◌, ℕ, Err, IsTrue, List, ap, subst, sym}
use Rattle.std.specs.List.{list_all}
use Rattle.warp_tag.specs.Table.{IsTable, live}
use Rattle.warp_tag.specs.declared.entry.Entry.{Entry}
use Rattle.warp_step.specs.Events.{event_fits}
use Rattle.warp_step.specs.Program.{Program}
use Rattle.warp_step.specs.Run.{Row, Run}
use Rattle.warp_step.specs.Snapshot.{start_state}
use Rattle.warp_table.specs.Announced.{IsHorizon}
use Rattle.warp_table.specs.Records.{set_of}
use Rattle.warp_table.specs.LogNames.{table_of}
use Rattle.warp_trace.specs.Printed.{PrintsText}
use Rattle.warp_trace.specs.Trace.{row_lines}
use Rattle.warp_trace.specs.declared.printer.TraceFault.TheVariants.{NoMemory}
use Rattle.warp_table.proofs.Told.{is_table}
use Rattle.warp_trace.proofs.LogTraces.{log_fits, traced, untouched}
use Rattle.warp_trace.proofs.trace.print_trace.Goals as goal

pub returns-in_default-clause-prints : goal.returns-in_default-clause-prints
returns-in_default-clause-prints g c =
    let r = c.args.recorder.now in
    let w = g.O.Printer.written c.args.out.now in
    let f = g.O.Printer.failures c.args.out.now in
    let horizon = subst (λ records. IsHorizon r.program (set_of records) c.horizon-horizon.result) c.table-table.ensures.table
    (subst (λ P. IsHorizon P (set_of c.table-table.result.now) c.horizon-horizon.result) c.program-program.ensures c.horizon-horizon.ensures) in
    traced {T = ℕ} c.args.labels.now r.program r.records c.horizon-horizon.result w w f f (Err NoMemory) horizon (λ rows run. untouched w f
    (row_lines c.args.labels.now r.program c.horizon-horizon.result (live (table_of r.records)) (start_state r.program) rows))

pub trace_names-requires-clause-table : goal.trace_names-requires-clause-table
trace_names-requires-clause-table g c =
    let r = c.args.recorder.now in
    subst IsTable (sym (c.deref.ensures.value ∙ c.in-Ok.ensures.ordered ∙ ap table_of c.table-table.ensures.table)) (is_table r.records)

pub trace_names-requires-clause-events : goal.trace_names-requires-clause-events
trace_names-requires-clause-events g c =
    let r = c.args.recorder.now in
    let names = sym (c.deref.ensures.value ∙ c.in-Ok.ensures.ordered ∙ ap table_of c.table-table.ensures.table) in
    subst (λ (es : List Entry). IsTrue (list_all (event_fits c.program-program.result.now) (live es))) names
    (subst (λ P. IsTrue (list_all (event_fits P) (live (table_of r.records)))) (sym c.program-program.ensures) (log_fits r.program r.records c.table-table.ensures.allowed))

pub returns-clause-prints : goal.returns-clause-prints
returns-clause-prints g c =
    let r = c.args.recorder.now in
    let labels = c.args.labels.now in
    let w = g.O.Printer.written c.args.out.now in
    let f = g.O.Printer.failures c.args.out.now in
    let w' = g.O.Printer.written c.trace_names.new.out in
    let f' = g.O.Printer.failures c.trace_names.new.out in
    let end = c.horizon-horizon.result in
    let horizon = subst (λ records. IsHorizon r.program (set_of records) end) c.table-table.ensures.table
    (subst (λ P. IsHorizon P (set_of c.table-table.result.now) end) c.program-program.ensures c.horizon-horizon.ensures) in
    let names = c.deref.ensures.value ∙ c.in-Ok.ensures.ordered ∙ ap table_of c.table-table.ensures.table in
    traced labels r.program r.records end w w' f f' c.trace_names.result horizon
    (subst (λ (P : Program). (rows : List Row) → Run P (live (table_of r.records)) rows
    → PrintsText w w' f f' (row_lines labels P end (live (table_of r.records)) (start_state P) rows) c.trace_names.result) c.program-program.ensures
    (subst (λ (es : List Entry). (rows : List Row) → Run c.program-program.result.now (live es) rows
    → PrintsText w w' f f' (row_lines labels c.program-program.result.now end (live es) (start_state c.program-program.result.now) rows) c.trace_names.result) names c.trace_names.ensures.prints))
