-- What a board is, and what its writer and its readers know of it.
use Rattle.std.specs.Prelude.{ℕ, ◌-◌, ◌/◌, Bool, List}
use Rattle.atomic_table.specs.Seated.{TableId}
use Rattle.warp_tag.specs.declared.out.Out.{Out}

-- for how many rows a board has room: two words each, behind the count and the flag
abbrev pub room_of : TableId → ℕ
room_of board = (board.words - 2) / 2

-- the state of a board: its rows, whether it is frozen, and the words of the next row that are stored already
pub record BoardState : Type 0 where
  pub rows : List Out
  pub frozen : Bool
  pub staged : List ℕ

-- what the writer of a board keeps: all its rows, and whether it is frozen
pub record WriterState : Type 0 where
  pub board : TableId
  pub rows : List Out
  pub frozen : Bool

-- what a reader of a board knows: the rows below its count, and whether it saw the flag up
pub record ReaderState : Type 0 where
  pub board : TableId
  pub rows : List Out
  pub frozen : Bool
