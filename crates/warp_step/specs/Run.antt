-- The run of a program over its events.
use Rattle.std.specs.Prelude.{◌≡◌, ◌⊎◌, Bool, true, false, ◌&&◌, ◌||◌, IsTrue, List, [], ◌∷◌, map, filter, Option, Some, None}
use Rattle.std.specs.List.{flat_map, list_any}
use Rattle.warp_tag.specs.Moment.{Moment, is_before, is_same}
use Rattle.warp_tag.specs.Table.{Event}
use Rattle.warp_tag.specs.Limits.{last_microstep, wider}
use Rattle.warp_tag.specs.declared.form.Form.{Form}
use Rattle.warp_step.specs.Program.{Program}
use Rattle.warp_step.specs.Snapshot.{Snapshot, start_state}
use Rattle.warp_step.specs.Step.{Step}
use Rattle.warp_step.specs.declared.given_input.Given.{Given}
use Rattle.warp_tag.specs.declared.out.Out.{Out}

-- a row of a trace: the tag of a step, the state after it, and its outputs
pub record Row : Type 0 where
  pub tag : Moment
  pub state : Snapshot
  pub outputs : List Out

-- what the events give at a tag
abbrev pub given_of : Event → Given
given_of e = record { input = e.input; value = e.value }

abbrev pub given_at : Moment → List Event → List Given
given_at t E = map given_of (filter (λ e. is_same t e.tag) E)

-- after the last row, if there is one
abbrev pub is_after : Option Moment → Moment → Bool
is_after None t = true
is_after (Some last) t = is_before last t

-- a tag waits: an event or a pending entry stands at it, after the last row
abbrev pub waits : List Event → Option Moment → Snapshot → Moment → Bool
waits E last s t = is_after last t && (list_any (λ e. is_same t e.tag) E || list_any (λ w. is_same t w.tag) s.pending)

-- the least tag that waits
pub record IsNext (E : List Event) (last : Option Moment) (s : Snapshot) (t : Moment) : Type 0 where
  pub waiting : IsTrue (waits E last s t)
  pub least : (u : Moment) → IsTrue (waits E last s u) → is_before u t ≡ false

-- the rows from a state on: each at the least tag that waits and a step from the row before; after them nothing waits
abbrev pub RunFrom : Program → List Event → Option Moment → Snapshot → List Row → Type 0
RunFrom P E last s [] = (t : Moment) → waits E last s t ≡ false
RunFrom P E last s (row ∷ rows) =
    IsNext E last s row.tag × Step P s row.tag (given_at row.tag E) row.state row.outputs
    × RunFrom P E (Some row.tag) row.state rows

-- the trace of a program over events
abbrev pub Run : Program → List Event → List Row → Type 0
Run P E trace = RunFrom P E None (start_state P) trace

-- the state after these rows, from a state on
abbrev pub state_at_end : Snapshot → List Row → Snapshot
state_at_end s [] = s
state_at_end s (row ∷ rows) = state_at_end row.state rows

-- the outputs of the rows, in order
abbrev pub outputs_of : List Row → List Out
outputs_of rows = flat_map (λ row. row.outputs) rows

-- the events before a tag
abbrev pub events_until : Moment → List Event → List Event
events_until end E = filter (λ e. is_before e.tag end) E

-- the rows before a tag
abbrev pub rows_until : Moment → List Row → List Row
rows_until end rows = filter (λ row. is_before row.tag end) rows

-- the outputs before a tag
abbrev pub outputs_until : Moment → List Out → List Out
outputs_until end outputs = filter (λ out. is_before out.tag end) outputs

-- raising the program to this form leaves the run as it is: times have as many microsteps as before, or nothing was lost
abbrev pub KeepsRun : Form → Program → List Row → Type 0
KeepsRun f P trace =
    (last_microstep (wider f P.form) ≡ last_microstep P.form) ⊎ ((state_at_end (start_state P) trace).lost ≡ 0)
