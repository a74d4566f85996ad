-- The lines of a list of bytes, and what a feed keeps and gives of them.
use Rattle.std.specs.Prelude.{ℕ, ◌≡◌, Bool, false, ◌==◌, nat_le, List, [], ◌∷◌, Option, Some, None, length, All, if◌then◌else◌}
use Rattle.std.specs.List.{slice_split, position_or_len}
use Rattle.std.specs.Option.{option_to_list}
use Rattle.warp_tag.specs.Limits.{longest_line}
use Rattle.warp_record.specs.declared.feed.Fed.{Fed}
use Rattle.warp_record.specs.declared.feed.Fed.TheVariants as fed

-- a line, as a session takes it: a whole one without its line feed, one of more than 128 bytes, or a last one
-- of at most 128 bytes that has no line feed
pub data Piece : Type 0 where
  Whole : List ℕ → Piece
  Long : Piece
  Torn : Piece

-- the byte is a line feed
abbrev pub is_end : ℕ → Bool
is_end byte = byte == 10

-- none of the bytes is a line feed
abbrev pub IsOneLine : List ℕ → Type 0
IsOneLine bytes = All (λ byte. is_end byte ≡ false) bytes

-- a line that a line feed ended
abbrev pub ended : List ℕ → Piece
ended line = if nat_le (length line) longest_line then Whole line else Long

-- what stands after the last line feed, which counts if it isn't empty
abbrev pub unended : List ℕ → Option Piece
unended [] = None
unended (byte ∷ line) = Some (if nat_le (length (byte ∷ line)) longest_line then Torn else Long)

-- of the parts between line feeds the last one has no line feed behind it
abbrev pub pieces : List (List ℕ) → List Piece
pieces [] = []
pieces (last ∷ []) = option_to_list (unended last)
pieces (line ∷ next ∷ parts) = ended line ∷ pieces (next ∷ parts)

-- the lines of the bytes: their parts between line feeds
abbrev pub lines_of : List ℕ → List Piece
lines_of bytes = pieces (slice_split is_end bytes)

-- where the first line feed stands, or how many bytes there are where none does
abbrev pub first_end : List ℕ → ℕ
first_end bytes = position_or_len is_end bytes

-- what a feed keeps of the unfinished line: its bytes, or None where these are more than 128
abbrev pub kept_of : List ℕ → Option (List ℕ)
kept_of line = if nat_le (length line) longest_line then Some line else None

-- the line that a feed gave
abbrev pub piece_of : Fed → Piece
piece_of (fed.Text line) = Whole line.items
piece_of fed.TooLong = Long
piece_of fed.Torn = Torn
