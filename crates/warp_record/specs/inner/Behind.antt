-- The words that are left of a text behind its first byte, which is a space where it is cut from a longer one.
use Rattle.std.specs.Prelude.{ℕ, List, [], ◌∷◌}
use Rattle.std.specs.List.{slice_split}
use Rattle.warp_record.specs.Number.{is_space}

-- the words behind the first byte; none where there is no byte
abbrev pub words_behind : List ℕ → List (List ℕ)
words_behind [] = []
words_behind (byte ∷ bytes) = slice_split is_space bytes
