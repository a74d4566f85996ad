-- The values of checkpoints, the oldest first: copies of all, or those of the newest and what each wrote over.
use Rattle.std.specs.Prelude.{ℕ, ℤ, Bool, ◌+◌, ◌≤◌, nat_lt, List, [], ◌∷◌, ◌++◌, drop, slice_set, if◌then◌else◌}
use Rattle.warp_run.specs.declared.changes.Cell.{Cell}

-- of so many variables at most all values are copied
abbrev pub most_copied : ℕ
most_copied = 32

-- whether there are more
abbrev pub is_wide : ℕ → Bool
is_wide width = nat_lt most_copied width

-- for how many values that are copied, values that were written over, and counts of these memory was taken
pub record StackRoom : Type 0 where
  pub values : ℕ
  pub cells : ℕ
  pub steps : ℕ

-- there is as much room, or more
pub record IsRoomLike (least room : StackRoom) : Type 0 where
  pub values : least.values ≤ room.values
  pub cells : least.cells ≤ room.cells
  pub steps : least.steps ≤ room.steps

-- of how many variables each checkpoint has values, those of all, the oldest first, the room for them, and how many values one
-- more may have
pub record Stacked : Type 0 where
  pub width : ℕ
  pub values : List ℤ
  pub room : StackRoom
  pub free : ℕ

-- no checkpoint, and no room
abbrev pub no_values : ℕ → Stacked
no_values width = record { width = width; values = []; room = record { values = 0; cells = 0; steps = 0 }; free = 0 }

-- copies one after another, and the room for them
pub record Copied : Type 0 where
  pub values : List ℤ
  pub room : ℕ

abbrev pub no_copies : Copied
no_copies = record { values = []; room = 0 }

-- the same as with copies, where the newest are whole
pub record Changed : Type 0 where
  pub width : ℕ
  pub values : List ℤ
  pub cells : ℕ
  pub steps : ℕ
  pub free : ℕ

abbrev pub no_changes : ℕ → Changed
no_changes width = record { width = width; values = []; cells = 0; steps = 0; free = 0 }

-- values with those given back that were written over, the last first
abbrev pub given_back : List Cell → List ℤ → List ℤ
given_back [] values = values
given_back (cell ∷ cells) values = slice_set (given_back cells values) cell.at cell.value

-- the values at each checkpoint, the oldest first, where the newest has these: each step says how many values its checkpoint
-- wrote over, and what the later ones wrote over gives its own back
abbrev pub values_of : List ℤ → List Cell → List ℕ → List ℤ
values_of image cells [] = []
values_of image cells (step ∷ steps) = given_back (drop step cells) image ++ values_of image (drop step cells) steps

-- how many values were written over by these steps
abbrev pub cells_in : List ℕ → ℕ
cells_in [] = 0
cells_in (step ∷ steps) = step + cells_in steps

-- how many values one more may have: as many as are free, where there is room for its step
abbrev pub free_for : ℕ → ℕ → ℕ → ℕ
free_for steps room left = if nat_lt steps room then left else 0
