-- Rows that begin a run.
use Rattle.std.specs.Prelude.{List, [], ◌∷◌, Option, Some, None}
use Rattle.warp_tag.specs.Moment.{Moment}
use Rattle.warp_tag.specs.Table.{Event}
use Rattle.warp_step.specs.Program.{Program}
use Rattle.warp_step.specs.Snapshot.{Snapshot, start_state}
use Rattle.warp_step.specs.Step.{Step}
use Rattle.warp_step.specs.Run.{Row, IsNext, given_at}

-- the tag of the last row, or this one where there is no row
abbrev pub last_after : Option Moment → List Row → Option Moment
last_after last [] = last
last_after last (row ∷ rows) = last_after (Some row.tag) rows

-- these rows begin the run from a last tag and a state on: each at the least tag that waits, and a step from the row
-- before
abbrev pub BeginFrom : Program → List Event → Option Moment → Snapshot → List Row → Type 0
BeginFrom P E last s [] = Unit {0}
BeginFrom P E last s (row ∷ rows) =
    IsNext E last s row.tag × Step P s row.tag (given_at row.tag E) row.state row.outputs
    × BeginFrom P E (Some row.tag) row.state rows

-- these rows begin the run
abbrev pub Begin : Program → List Event → List Row → Type 0
Begin P E rows = BeginFrom P E None (start_state P) rows
