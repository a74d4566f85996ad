-- How seats are kept over a restart: a line for each on which somebody sits, in the order of origins.
use Rattle.std.specs.Prelude.{◌≡◌, ◌⊎◌, ℕ, zero, suc, ◌+◌, ◌≤◌, Bool, true, false, List, [], ◌∷◌, ◌++◌, codes, decimal, get_or, is_some, length, map, None, if◌then◌else◌}
use Rattle.std.specs.List.{join_with_byte}
use Rattle.warp_tag.specs.Limits.{last_number}
use Rattle.hex.specs.Hex.{IsBytes, encode_lower}
use Rattle.warp_seats.specs.declared.seat.Seat.{Seat}
use Rattle.warp_seats.specs.declared.seat.Sitter.TheVariants.{Away}
use Rattle.warp_seats.specs.declared.seat.Said.{Said}
use Rattle.warp_seats.specs.Seats.{AreApart, SeatsState, found_by, is_empty, is_taken, no_seat, seat_at, with_seat}

-- the words of the line of a seat: its origin, how often it was taken, and the digest of its secret
abbrev pub seat_words : ℕ → Said → List (List ℕ)
seat_words n said = codes "seat" ∷ decimal n ∷ decimal said.generation ∷ encode_lower said.digest ∷ []

-- the line, with its line feed
abbrev pub seat_line : ℕ → Said → List ℕ
seat_line n said = join_with_byte 32 (seat_words n said) ++ 10 ∷ []

-- what a line says of a seat
abbrev pub said_of : Seat → Said
said_of s = record { generation = s.generation; digest = s.digest }

-- the line of the seat of an origin, if somebody sits there
abbrev pub line_at : ℕ → SeatsState → List ℕ
line_at n s = if is_empty (seat_at n s).sitter then [] else seat_line n (said_of (seat_at n s))

-- the lines of so many seats from this one on
abbrev pub lines_from : ℕ → ℕ → SeatsState → List ℕ
lines_from zero n s = []
lines_from (suc count) n s = line_at n s ++ lines_from count (n + 1) s

-- the text of all seats
unfoldable pub text_of : SeatsState → List ℕ
text_of s = lines_from 64 0 s

-- what a line can say
pub record CanSay (said : Said) : Type 0 where
  pub generation : said.generation ≤ last_number
  pub bytes : IsBytes said.digest
  pub digest : length said.digest ≡ 32

-- what is kept of a seat on which somebody sits: who sat there is away since now
abbrev pub kept_of : ℕ → Said → Seat → Seat
kept_of now said s = record { generation = said.generation; digest = said.digest; sitter = Away now }

-- what is kept of a seat
abbrev pub kept_at : ℕ → Seat → Seat
kept_at now s = if is_empty s.sitter then no_seat else kept_of now (said_of s) s

-- what is kept of all seats
abbrev pub kept_from : ℕ → SeatsState → SeatsState
kept_from now s = record s { seats = map (kept_at now) s.seats }

-- one of these seats is what is kept of one: as if nobody had taken it, or offered, with somebody who is away since now
abbrev pub IsKept : ℕ → ℕ → SeatsState → Type 0
IsKept now n s = (seat_at n s ≡ no_seat)
    ⊎ ((get_or s.offered n false ≡ true) × (((seat_at n s).sitter ≡ Away now) × CanSay (said_of (seat_at n s))))

-- these seats are what is kept of some, where these origins are offered
pub record AreKept (flags : List Bool) (now : ℕ) (s : SeatsState) : Type 0 where
  pub offered : s.offered ≡ flags
  pub count : length s.seats ≡ 64
  pub each : (n : ℕ) → IsKept now n s
  pub apart : AreApart s

-- no text begins with a line of this origin's seat
abbrev pub HasNoLine : ℕ → List ℕ → Type 0
HasNoLine n text = (said : Said) (behind : List ℕ) → CanSay said → text ≡ seat_line n said ++ behind → ⊥

-- the line of an origin's seat stands in front, which is not offered, or whose digest is that of another one
pub record IsWrong (n : ℕ) (text : List ℕ) (s : SeatsState) : Type 0 where
  pub said : Said
  pub behind : List ℕ
  pub can : CanSay said
  pub line : text ≡ seat_line n said ++ behind
  pub why : (get_or s.offered n false ≡ false) ⊎ (is_some (found_by said.digest s) ≡ true)

-- the line of an origin's seat is taken off the text
pub record TakesLine (n now : ℕ) (text : List ℕ) (s : SeatsState) (rest : List ℕ) (after : SeatsState) : Type 0 where
  pub said : Said
  pub can : CanSay said
  pub line : text ≡ seat_line n said ++ rest
  pub offered : get_or s.offered n false ≡ true
  pub known : found_by said.digest s ≡ None
  pub seat : after ≡ with_seat n (kept_of now said) s

-- what is left of the text when the line of an origin's seat was read: all of it, as it has none in front, or what is behind it
abbrev pub ReadsOn : ℕ → ℕ → List ℕ → SeatsState → List ℕ → SeatsState → Type 0
ReadsOn n now text s rest after = (HasNoLine n text × (rest ≡ text) × (after ≡ s)) ⊎ TakesLine n now text s rest after

-- nobody sits but where a seat is offered
abbrev pub AreOffered : SeatsState → Type 0
AreOffered s = (n : ℕ) → is_taken n s ≡ true → get_or s.offered n false ≡ true

-- what is known of each seat can be said
abbrev pub CanBeSaid : SeatsState → Type 0
CanBeSaid s = (n : ℕ) → CanSay (said_of (seat_at n s))
