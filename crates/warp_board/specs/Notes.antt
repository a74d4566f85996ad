-- What a seat at a board's table knows, and how two seats' notes become one.
use Rattle.std.specs.Prelude.{ℕ, Bool, false, List, []}
use Rattle.warp_tag.specs.declared.out.Out.{Out}
use Rattle.warp_board.specs.declared.notes.Notes.{Notes}

-- between two calls: no word is staged, and nothing that was taken in waits to be compared
abbrev pub at_rest : Bool → ℕ → List Out → Bool → Notes
at_rest writes room rows frozen =
    record { writes = writes; room = room; rows = rows; frozen = frozen; staged = []; joined_rows = []; joined_frozen = false }

-- a seat that knows nothing yet, the writer's or a reader's, of a board with room for so many rows
abbrev pub newcomer : Bool → ℕ → Notes
newcomer writes room = at_rest writes room [] false

-- a spent seat, which is left where another took in what it knew
abbrev pub no_notes : Notes
no_notes = newcomer false 0

-- a reader that knows the same
abbrev pub as_reader : Notes → Notes
as_reader notes = record notes { writes = false; staged = [] }

-- the first seat, which took in what the second knew
abbrev pub taken_in : Notes → Notes → Notes
taken_in notes other = record notes { joined_rows = other.rows; joined_frozen = other.frozen }
