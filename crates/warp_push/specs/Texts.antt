-- Texts that are pushed.
use Rattle.std.specs.Prelude.{◌≡◌, ℕ, zero, suc, ◌==◌, ◌-◌, ◌^◌, Bool, true, List, [], ◌∷◌, ◌++◌, codes, decimal, drop, if◌then◌else◌, length, min, nat_le, take}
use Rattle.std.specs.List.{after_first, count_by, position_or_len}

-- a text with the mark in front of each of its lines; whether its first byte begins a line
abbrev pub marked_from : List ℕ → Bool → List ℕ → List ℕ
marked_from mark starts [] = []
marked_from mark starts (b ∷ bs) = (if starts then mark else []) ++ (b ∷ marked_from mark (b == 10) bs)

abbrev pub marked : List ℕ → List ℕ → List ℕ
marked mark text = marked_from mark true text

-- the mark of a line that is pushed
abbrev pub pushed_mark : List ℕ
pushed_mark = 42 ∷ 32 ∷ []

-- a page that was told, but for a last line that says that all is frozen
abbrev pub page_lines : Bool → List ℕ → List ℕ
page_lines frozen text = if frozen then take (length text - 7) text else text

-- the mark of a line of steps that is pushed
abbrev pub step_mark : List ℕ
step_mark = codes "* step "

-- a byte ends a line; one ends a word
abbrev pub is_feed : ℕ → Bool
is_feed byte = byte == 10

abbrev pub is_space : ℕ → Bool
is_space byte = byte == 32

abbrev pub ends_word : ℕ → Bool
ends_word byte = nat_le byte 32

-- what stands behind the first so many lines of a text; nothing where it has no more
abbrev pub behind_lines : ℕ → List ℕ → List ℕ
behind_lines zero text = text
behind_lines (suc count) text = behind_lines count (after_first is_feed text)

-- how many lines a text has, as far as 64 bits count
abbrev pub lines_in : List ℕ → ℕ
lines_in text = min (count_by is_feed text) (2 ^ 64 - 1)

-- from the first byte on that ends a word
abbrev pub from_word_end : List ℕ → List ℕ
from_word_end text = drop (position_or_len ends_word text) text

-- what a line says behind its second word, which is the length of the log
abbrev pub value_in : List ℕ → List ℕ
value_in line = from_word_end (after_first is_space line)

-- a line that is pushed says the value that was told in this one, whatever length of the log it names
abbrev pub SaysValue : List ℕ → List ℕ → Type 0
SaysValue pushed told = (line : List ℕ) × (pushed ≡ pushed_mark ++ line) × (value_in line ≡ value_in told)

-- how many spaces a text has
abbrev pub spaces_in : List ℕ → ℕ
spaces_in text = count_by is_space text

-- the line that says how many lines of steps were left out
abbrev pub skipped_text : ℕ → List ℕ
skipped_text left_out = codes "* skipped " ++ (decimal left_out ++ 10 ∷ [])
