-- The lines that come in, their ranges by form, and the one spelling of each.
use Rattle.std.specs.Prelude.{ℕ, ◌<◌, ◌≤◌, IsTrue, List, [], ◌∷◌, codes, decimal}
use Rattle.std.specs.List.{join_with_byte}
use Rattle.warp_tag.specs.Limits.{has_joint, last_number, most_origins}
use Rattle.warp_tag.specs.declared.form.Form.{Form}
use Rattle.warp_record.specs.Record.{IsRecord, record_words}
use Rattle.warp_record.specs.declared.line.Query.{Query}
use Rattle.warp_record.specs.declared.line.Query.TheVariants.{Var, Outputs, Output, Horizon, Released, Lost, Breach, JointBreach, Log}
use Rattle.warp_record.specs.declared.line.Look.{Look}
use Rattle.warp_record.specs.declared.line.Look.TheVariants.{Board, Row}
use Rattle.warp_record.specs.declared.line.Line.{Line}
use Rattle.warp_record.specs.declared.line.Line.TheVariants as line

-- the ranges of a query in a form
abbrev pub IsQuery : Form → Query → Type 0
IsQuery f (Var number) = number ≤ last_number
IsQuery f Outputs = Unit {0}
IsQuery f (Output number) = number ≤ last_number
IsQuery f Horizon = Unit {0}
IsQuery f Released = Unit {0}
IsQuery f Lost = Unit {0}
IsQuery f (Breach origin) = origin < most_origins f
IsQuery f JointBreach = IsTrue (has_joint f)
IsQuery f (Log place) = place ≤ last_number

-- the ranges of a look at the board
abbrev pub IsLook : Look → Type 0
IsLook Board = Unit {0}
IsLook (Row number) = number ≤ last_number

-- the ranges of a line in a form
abbrev pub IsLine : Form → Line → Type 0
IsLine f (line.Put said) = IsRecord f said
IsLine f (line.Ask query) = IsQuery f query
IsLine f line.Collect = Unit {0}
IsLine f (line.Look look) = IsLook look

-- the words of a query
abbrev pub query_words : Query → List (List ℕ)
query_words (Var number) = codes "var" ∷ decimal number ∷ []
query_words Outputs = codes "outputs" ∷ []
query_words (Output number) = codes "output" ∷ decimal number ∷ []
query_words Horizon = codes "horizon" ∷ []
query_words Released = codes "released" ∷ []
query_words Lost = codes "lost" ∷ []
query_words (Breach origin) = codes "breach" ∷ decimal origin ∷ []
query_words JointBreach = codes "breach" ∷ codes "*" ∷ []
query_words (Log place) = codes "log" ∷ decimal place ∷ []

-- the words of a look at the board
abbrev pub look_words : Look → List (List ℕ)
look_words Board = codes "board" ∷ []
look_words (Row number) = codes "row" ∷ decimal number ∷ []

-- the words of a line
abbrev pub line_words : Line → List (List ℕ)
line_words (line.Put said) = record_words said
line_words (line.Ask query) = query_words query
line_words line.Collect = codes "collect" ∷ []
line_words (line.Look look) = look_words look

-- a line's text, without its line feed: its words, with one space between two
abbrev pub spelling : Line → List ℕ
spelling said = join_with_byte 32 (line_words said)
