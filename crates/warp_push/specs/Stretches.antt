-- Where values differ from those before, and what tells it in texts.
use Rattle.std.specs.Prelude.{◌≡◌, ◌≢◌, ◌+◌, ◌-◌, ◌^◌, ◌<◌, ◌≤◌, ℕ, ℤ, Bool, true, false, All, FitsSigned, List, ◌++◌, Option, Some, None, drop, get_or, length, take}
use Rattle.std.specs.Int.{w64}
use Rattle.std.specs.List.{after_first, position}
use Rattle.warp_watch.specs.Lines.{cells_text}
use Rattle.warp_push.specs.Texts.{SaysValue, from_word_end, is_space, pushed_mark}

-- from this place on so many values are those from the first to the last in which new values differ from old ones
pub record AreDiffering (old new : List ℤ) (from count : ℕ) : Type 0 where
  pub some : 1 ≤ count
  pub within : from + count ≤ length new
  pub front : take from new ≡ take from old
  pub behind : drop (from + count) new ≡ drop (from + count) old
  pub first : (d : ℤ) → get_or new from d ≢ get_or old from d
  pub last : (d : ℤ) → get_or new (from + count - 1) d ≢ get_or old (from + count - 1) d

-- values as 64 bits have them
abbrev pub AreValues : List ℤ → Type 0
AreValues values = All (FitsSigned w64) values

-- what stands behind the first two words of a line; what behind the third; and what in front of it
abbrev pub behind_two : List ℕ → List ℕ
behind_two line = after_first is_space (after_first is_space line)

abbrev pub values_of : List ℕ → List ℕ
values_of line = from_word_end (behind_two line)

abbrev pub head_in : List ℕ → List ℕ
head_in line = take (length line - length (behind_two line)) line

-- a line that is pushed says just the values, from the first to the last, in which the values of a line of cells from that
-- number on differ from those of the line before, at the number of the first of them
abbrev pub SaysStretch : ℕ → List ℕ → List ℕ → List ℕ → Type 0
SaysStretch first before pushed told =
    (len_before len : ℕ) (old new : List ℤ) → first < 2 ^ 64 → len_before < 2 ^ 64 → len < 2 ^ 64 → AreValues old → AreValues new → length old ≡ length new
    → before ≡ cells_text len_before first old → told ≡ cells_text len first new
    → (from : ℕ) × (count : ℕ) × AreDiffering old new from count
    × (pushed ≡ pushed_mark ++ cells_text len (first + from) (take count (drop from new)))

-- it says all values that were told of cells from this number on, or a stretch of them, those that differ from the values of
-- the line before
abbrev pub SaysCells : Bool → ℕ → List ℕ → List ℕ → List ℕ → Type 0
SaysCells true first before pushed told = SaysValue pushed told
SaysCells false first before pushed told = SaysStretch first before pushed told

-- for a proof alone: two texts have so many bytes alike at their fronts, and no more
pub record AreAlike (left right : List ℕ) (count : ℕ) : Type 0 where
  pub in_left : count ≤ length left
  pub in_right : count ≤ length right
  pub same : take count left ≡ take count right
  pub most : count < length left → count < length right → get_or left count 0 ≢ get_or right count 0

-- for a proof alone: two texts have so many bytes alike at their ends, and no more
pub record AreAlikeBehind (left right : List ℕ) (count : ℕ) : Type 0 where
  pub in_left : count ≤ length left
  pub in_right : count ≤ length right
  pub same : drop (length left - count) left ≡ drop (length right - count) right
  pub most : count < length left → count < length right
      → get_or left (length left - 1 - count) 0 ≢ get_or right (length right - 1 - count) 0

-- for a proof alone: here is the last space of the first bytes of a text, of so many
pub record IsLastSpace (text : List ℕ) (many at : ℕ) : Type 0 where
  pub below : at < many
  pub is : get_or text at 0 ≡ 32
  pub last : (k : ℕ) → at < k → k < many → get_or text k 0 ≢ 32

-- for a proof alone: the first value that differs begins here
abbrev pub BeginsAt : List ℕ → List ℕ → ℕ → Type 0
BeginsAt old new at = (alike : ℕ) × AreAlike old new alike × IsLastSpace new alike at

-- for a proof alone: where the first space is behind so many bytes, or else in front of the last byte
abbrev pub end_behind : ℕ → Option ℕ → ℕ → ℕ
end_behind start None long = long - 1
end_behind start (Some at) long = start + at

-- for a proof alone: the last value that differs ends here
abbrev pub EndsAt : List ℕ → List ℕ → ℕ → Type 0
EndsAt old new until =
    (alike : ℕ) × AreAlikeBehind old new alike
    × (until ≡ end_behind (length new - alike) (position is_space (drop (length new - alike) new)) (length new))
