-- The rule of a board's table: what its words spell, and what each seat knows.
use Rattle.std.specs.Prelude.{◌≡◌, ℕ, ◌+◌, ◌*◌, ◌<◌, ◌≤◌, true, List, length, slice_index, slice_get, Some, if◌then◌else◌}
use mathlib.Core.Option.{some}
use lib.ListN.{get_elem?}
use Rattle.atomic_table.specs.Table.{State}
use Rattle.warp_tag.specs.Lists.{StartsWith}
use Rattle.warp_tag.specs.declared.out.Out.{Out}
use Rattle.warp_board.specs.declared.notes.Notes.{Notes}
use Rattle.warp_board.specs.Board.{BoardState}
use Rattle.warp_board.specs.Spelling.{Spells}

-- the words spell the board's state: the count, the flag, each row below the count, and the staged words behind them
pub record IsSpelledBy (board : BoardState) (words : List ℕ) : Type 0 where
  pub count : slice_index words 0 ≡ length board.rows
  pub flag : slice_index words 1 ≡ (if board.frozen then 1 else 0)
  pub rows : (i : ℕ) (row : Out) → slice_get board.rows i ≡ Some row
      → Spells row (slice_index words (2 + 2 * i)) (slice_index words (3 + 2 * i))
  pub staged : (k : ℕ) → k < length board.staged
      → slice_index words (2 + 2 * length board.rows + k) ≡ slice_index board.staged k

-- what a seat knows of the board is so, also what it took in by a join; the one writer's seat knows all
pub record Fits (room : ℕ) (board : BoardState) (writer seat : ℕ) (notes : Notes) : Type 0 where
  pub room_is : 0 < notes.room → notes.room ≡ room
  pub rows : StartsWith board.rows notes.rows
  pub frozen : notes.frozen ≡ true → board.frozen ≡ true
  pub joined_rows : StartsWith board.rows notes.joined_rows
  pub joined_frozen : notes.joined_frozen ≡ true → board.frozen ≡ true
  pub writes : notes.writes ≡ true
      → (seat ≡ writer) × (notes.rows ≡ board.rows) × (notes.frozen ≡ board.frozen) × (notes.staged ≡ board.staged)

-- in a table with room for so many rows there is a state of the board that its words spell and each seat's notes fit
pub record Keeps (room : ℕ) (s : State (Unit {0}) Notes) : Type 0 where
  pub board : BoardState
  pub writer : ℕ
  pub size : length s.words ≡ 2 + 2 * room
  pub fits : length board.rows ≤ room
  pub few : length board.staged ≤ 2
  pub words : IsSpelledBy board s.words
  pub seats : (seat : ℕ) (notes : Notes) → get_elem? s.views seat ≡ some notes
      → Fits room board writer seat notes
