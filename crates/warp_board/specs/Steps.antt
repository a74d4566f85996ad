-- The kinds of step at a board's table: what each tells of the step, the seat before, the number found or stored, and
-- the seat after.
use Rattle.std.specs.Prelude.{◌≡◌, ℕ, ◌+◌, ◌*◌, ◌<◌, ◌≤◌, true, false, ◌||◌, [], ◌∷◌, ◌++◌, length, slice_get, Some, if◌then◌else◌}
use Rattle.atomic_table.specs.Table.{Me, Step}
use Rattle.warp_tag.specs.Lists.{StartsWith}
use Rattle.warp_tag.specs.declared.out.Out.{Out}
use Rattle.warp_board.specs.declared.notes.Notes.{Notes}
use Rattle.warp_board.specs.Spelling.{Spells}

-- what one seat knows, with the slots that it holds, of which there are none here
abbrev pub Seat : Type 0
Seat = Me (Unit {0}) Notes

-- the writer has stored one more word of the next row
abbrev pub Stages : Step (Unit {0}) → Seat → ℕ → Seat → Type 0
Stages step before stored after = after ≡ (record before.0 { staged = before.0.staged ++ stored ∷ [] }, before.1)

-- the row that the two staged words spell has become the last one
abbrev pub Counts : Step (Unit {0}) → Seat → ℕ → Seat → Type 0
Counts step before stored after =
    (row : Out) × (first : ℕ) × (second : ℕ) × (before.0.staged ≡ first ∷ second ∷ []) × Spells row first second
    × (after ≡ (record before.0 { rows = before.0.rows ++ row ∷ []; staged = [] }, before.1))

-- the flag is up
abbrev pub Raises : Step (Unit {0}) → Seat → ℕ → Seat → Type 0
Raises step before stored after = after ≡ (record before.0 { frozen = true }, before.1)

-- the rows below the count found are known; they begin with those known before, and with those that were taken in
pub record LooksAtCount (step : Step (Unit {0})) (before : Seat) (found : ℕ) (after : Seat) : Type 0 where
  pub count : found ≡ length after.0.rows
  pub rows : StartsWith after.0.rows before.0.rows
  pub joined : StartsWith after.0.rows before.0.joined_rows
  pub few : 0 < before.0.room → length after.0.rows ≤ before.0.room
  pub others : after
      ≡ (record before.0 { rows = after.0.rows; frozen = before.0.frozen || before.0.joined_frozen; joined_rows = []; joined_frozen = false }, before.1)
  pub writer : before.0.writes ≡ true → (after.0.rows ≡ before.0.rows) × (after.0.frozen ≡ before.0.frozen)

-- whether the flag is up is known, and stays so where it was
pub record LooksAtFlag (step : Step (Unit {0})) (before : Seat) (found : ℕ) (after : Seat) : Type 0 where
  pub flag : found ≡ (if after.0.frozen then 1 else 0)
  pub frozen : before.0.frozen ≡ true → after.0.frozen ≡ true
  pub others : after ≡ (record before.0 { frozen = after.0.frozen }, before.1)

-- the word found is the first or the second that spells the known row at its place
pub record ReadsWord (step : Step (Unit {0})) (before : Seat) (found : ℕ) (after : Seat) : Type 0 where
  pub same : after ≡ before
  pub first : (i : ℕ) (row : Out) → slice_get before.0.rows i ≡ Some row → step.word ≡ 2 + 2 * i
      → (second : ℕ) × Spells row found second
  pub second : (i : ℕ) (row : Out) → slice_get before.0.rows i ≡ Some row → step.word ≡ 3 + 2 * i
      → (first : ℕ) × Spells row first found
