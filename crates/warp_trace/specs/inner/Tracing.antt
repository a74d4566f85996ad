-- What one turn of a trace does: it goes past the names of one tag, with a row where something is given or pending there.
-- This follows the loop, for its proof's sake: no contract of a public call cites it.
use Rattle.std.specs.Prelude.{◌≡◌, ℕ, ℤ, ◌+◌, List, ◌++◌, MatchBool, drop}
use Rattle.std.specs.List.{flat_map}
use Rattle.warp_tag.specs.Moment.{Moment}
use Rattle.warp_tag.specs.Table.{Event}
use Rattle.warp_step.specs.Program.{Program}
use Rattle.warp_step.specs.Snapshot.{Snapshot}
use Rattle.warp_step.specs.Step.{numbers, state_after, outputs_after}
use Rattle.warp_step.specs.Run.{Row}
use Rattle.warp_step.specs.declared.given_input.Given.{Given}
use Rattle.warp_line.specs.inner.Replay.{is_waiting}
use Rattle.warp_trace.specs.Labels.{Names}
use Rattle.warp_trace.specs.Trace.{changed_at, row_line}
use Rattle.warp_trace.specs.declared.item.Item.{Item}

-- the row that a step from a state makes
abbrev pub row_after : Program → Snapshot → Moment → List Given → Row
row_after P s t X = record { tag = t; state = state_after P s t X; outputs = outputs_after P s t X }

-- a row more: its state is the next, and its line stands behind the text
pub record TellsRow (names : Names) (P : Program) (horizon t : Moment) (events : List Event) (X : List Given) (old new : Snapshot)
    (told told' : List ℕ) (ticks ticks' : ℕ) : Type 0 where
  pub state : new ≡ state_after P old t X
  pub text : told' ≡ told ++ row_line names P horizon events old (row_after P old t X)
  pub ticked : ticks' ≡ ticks + 1

-- all stays
pub record Stays (old new : Snapshot) (told told' : List ℕ) (ticks ticks' : ℕ) : Type 0 where
  pub state : new ≡ old
  pub text : told' ≡ told
  pub ticked : ticks' ≡ ticks

-- a row more, if something is given or pending at the tag; else all stays
abbrev pub TellsTag : Names → Program → Moment → Moment → List Event → List Given → Snapshot → Snapshot → List ℕ → List ℕ → ℕ → ℕ → Type 0
TellsTag names P horizon t events X old new text text' ticks ticks' =
    MatchBool (is_waiting t X old.pending)
    (TellsRow names P horizon t events X old new text text' ticks ticks')
    (Stays old new text text' ticks ticks')

-- the variables from this number on whose values were others before
abbrev pub changed_from : List ℤ → List ℤ → ℕ → List Item
changed_from before after n = flat_map (changed_at before after) (numbers n (drop n after))
