-- Rows that begin a run: one more, all that there are, and how many.
use Rattle.std.proofs.Common.{◌≡◌, ◌+◌, ◌<◌, ◌≤◌, false, List, ◌∷◌, [], ◌++◌, length, ap, ◌∙◌, refl, arith, IsTrue, Option, Some, None, length-append}
use Rattle.std.specs.List.{list_all}
use Rattle.warp_tag.specs.Limits.{most_names}
use Rattle.warp_tag.specs.Moment.{Moment}
use Rattle.warp_tag.specs.Table.{Event}
use Rattle.warp_step.specs.Program.{Program}
use Rattle.warp_step.specs.Events.{event_fits}
use Rattle.warp_step.specs.Snapshot.{Snapshot, start_state}
use Rattle.warp_step.specs.Step.{state_after, outputs_after}
use Rattle.warp_step.specs.Run.{Row, Run, RunFrom, IsNext, given_at, state_at_end, waits}
use Rattle.warp_step.specs.Valid.{is_valid}
use Rattle.warp_step.proofs.TagsOfRun.{few_rows}
use Rattle.warp_step.proofs.TraceExists.{exists}
use Rattle.warp_step.proofs.ValidLemmas.{validity}
use Rattle.warp_line.specs.Begin.{Begin, BeginFrom, last_after}
use Rattle.warp_line.proofs.Begins.{front_begins}
use Rattle.warp_run.specs.Tip.{AreFew}
use Rattle.warp_run.proofs.RowsStep.{begin_more}

-- they are the whole run where nothing waits after them
pub begin_whole : (P : Program) (E : List Event) (last : Option Moment) (s : Snapshot) (rows : List Row) → BeginFrom P E last s rows
    → ((t : Moment) → waits E (last_after last rows) (state_at_end s rows) t ≡ false) → RunFrom P E last s rows
begin_whole P E last s [] h end = end
begin_whole P E last s (r ∷ rows) h end = (h.0, h.1, begin_whole P E (Some r.tag) r.state rows h.2 end)

-- after a whole run nothing waits
pub run_ends : (P : Program) (E : List Event) (last : Option Moment) (s : Snapshot) (rows : List Row) → RunFrom P E last s rows
    → (t : Moment) → waits E (last_after last rows) (state_at_end s rows) t ≡ false
run_ends P E last s [] run = run
run_ends P E last s (r ∷ rows) run = run_ends P E (Some r.tag) r.state rows run.2

-- they are no more than the run has
pub begin_length : (P : Program) (E : List Event) (rows trace : List Row) → Begin P E rows → Run P E trace → length rows ≤ length trace
begin_length P E rows trace h run =
    let begins = front_begins P E rows trace h run in
    let lengths : length trace ≡ length rows + length begins.0 = ap length begins.1 ∙ length-append rows begins.0 in
    omega arith

-- the trace that there is
abbrev pub trace_of : (P : Program) → List Event → List Row
trace_of P E = (exists P E).0

-- it has as many rows at the least
pub begin_within : (P : Program) (E : List Event) (rows : List Row) → Begin P E rows → length rows ≤ length (trace_of P E)
begin_within P E rows h = begin_length P E rows (exists P E).0 h (exists P E).1

-- and of a valid program no more than there may be names
pub begin_names : (P : Program) (E : List Event) → IsTrue (is_valid P) → IsTrue (list_all (event_fits P) E) → AreFew P E
begin_names P E valid fits rows h =
    let limits = (validity P valid).limits in
    let all : length (trace_of P E) ≤ most_names = few_rows P E (exists P E).0 limits.stop limits.top fits (exists P E).1 in
    let within = begin_within P E rows h in
    omega arith

-- where one more row waits they are fewer than there are names
pub begin_few : (P : Program) (E : List Event) (rows : List Row) (t : Moment) → IsTrue (is_valid P) → IsTrue (list_all (event_fits P) E)
    → Begin P E rows
    → IsNext E (last_after None rows) (state_at_end (start_state P) rows) t → length rows < most_names
begin_few P E rows t valid fits h next =
    let s : Snapshot = state_at_end (start_state P) rows in
    let X = given_at t E in
    let row : Row = record { tag = t; state = state_after P s t X; outputs = outputs_after P s t X } in
    let more : Begin P E (rows ++ row ∷ []) = begin_more P E None (start_state P) rows row h next (record { state = refl; outputs = refl }) in
    let few = begin_names P E valid fits (rows ++ row ∷ []) more in
    let one = length-append rows (row ∷ []) in
    omega arith
