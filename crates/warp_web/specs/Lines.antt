-- Of a connection that speaks lines: what it heard and said, what it was told and wrote.
use Rattle.std.specs.Prelude.{◌≡◌, ℕ, ◌-◌, Bool, true, false, List, [], ◌∷◌, ◌++◌, Option, length, min, if◌then◌else◌}
use Rattle.std.specs.Option.{option_map, option_to_list}
use Rattle.warp_record.specs.declared.feed.Fed.{Fed}
use Rattle.warp_record.specs.Lines.{Piece, IsOneLine, kept_of, lines_of, piece_of}
use Rattle.warp_web.specs.Bounds.{most_heard}

-- what came and was not said: what a feed keeps of the unfinished line, the bytes behind it, and whether no more come
pub record Unsaid : Type 0 where
  pub line : Option (List ℕ)
  pub rest : List ℕ
  pub ended : Bool

-- nothing came yet
abbrev pub nothing_unsaid : Unsaid
nothing_unsaid = record { line = kept_of []; rest = []; ended = false }

-- how many of so many bytes are heard: those for which there is room, and none behind the end
abbrev pub heard_count : Unsaid → ℕ → ℕ
heard_count u count = if u.ended then 0 else min count (most_heard - length u.rest)

-- these bytes came too
abbrev pub hearing : List ℕ → Unsaid → Unsaid
hearing bytes u = record u { rest = u.rest ++ bytes }

-- Of the bytes that were heard these lines were said. Whatever comes behind them, where more may come, the lines of all
-- are these, and then those of what is unsaid and of what comes.
pub record Says (heard : List ℕ) (said : List Piece) (u : Unsaid) : Type 0 where
  pub line : List ℕ
  pub one_line : IsOneLine line
  pub kept : u.line ≡ kept_of line
  pub lines : (more : List ℕ) → (u.ended ≡ true → more ≡ []) → lines_of (heard ++ more) ≡ said ++ lines_of (line ++ (u.rest ++ more))

-- the line that was said, if one was
abbrev pub said_of : Option Fed → List Piece
said_of fed = option_to_list (option_map piece_of fed)

-- each text with a line feed behind it
abbrev pub text_of : List (List ℕ) → List ℕ
text_of [] = []
text_of (text ∷ texts) = (text ++ 10 ∷ []) ++ text_of texts

-- what a connection holds that speaks lines: what came and was not said, and what is to be written
pub record Talk : Type 0 where
  pub unsaid : Unsaid
  pub output : List ℕ

-- nothing came and nothing was told
abbrev pub new_talk : Talk
new_talk = record { unsaid = nothing_unsaid; output = [] }

-- what passed over a connection: the bytes that it heard, the lines that it said, the texts that it was told, and the
-- bytes that it wrote
pub record Passed : Type 0 where
  pub heard : List ℕ
  pub said : List Piece
  pub told : List (List ℕ)
  pub written : List ℕ

-- nothing passed
abbrev pub nothing_passed : Passed
nothing_passed = record { heard = []; said = []; told = []; written = [] }

-- This passed: of what was heard these lines were said, in order; what was written and what is to be written are the
-- texts that were told, whole lines in order.
pub record Carries (p : Passed) (t : Talk) : Type 0 where
  pub says : Says p.heard p.said t.unsaid
  pub writes : p.written ++ t.output ≡ text_of p.told
