-- Statements as they stand in a file.
use Rattle.std.specs.Prelude.{ℕ, List, Option, Some, None, codes, bytes_eq, if◌then◌else◌}
use Rattle.serde_json.specs.Data.{Data, array, Items, no_items, item}
use Rattle.serde_json.specs.Find.{as_str}
use Rattle.warp_prog.specs.Chain.{◌>>=◌}
use Rattle.warp_prog.specs.File.{Word, NamedTerm, NamedStatement, SetNamed, PutNamed, ScheduleNamed, ChooseNamed, SetCellNamed, RepeatNamed, NamedBody, NamedDone, NamedThen}
use Rattle.warp_prog.specs.Word.{name_at, integer_at}
use Rattle.warp_prog.specs.Terms.{term_of}

-- a statement of this word, a name and an expression
abbrev pub assignment : List ℕ → Word → NamedTerm → Option NamedStatement
assignment w name e =
    if bytes_eq w (codes "set") then Some (SetNamed name e) else (if bytes_eq w (codes "put") then Some (PutNamed name e) else None)

-- ["set", variable, expression] and ["put", output, expression]
unfoldable pub assignment_of : List ℕ → Data → Data → Option NamedStatement
assignment_of w x y = do
  name ← name_at x
  e ← term_of y
  assignment w name e

-- ["schedule", action, delay, expression]
unfoldable pub scheduling_of : List ℕ → Data → Data → Data → Option NamedStatement
scheduling_of w x y z = do
  name ← name_at x
  delay ← integer_at y
  e ← term_of z
  if bytes_eq w (codes "schedule") then Some (ScheduleNamed name delay e) else None

-- ["if", expression, [..], [..]], of what the lists are
unfoldable pub choice_of : Data → Option NamedBody → Option NamedBody → Option NamedStatement
choice_of x a b = do
  first ← a
  second ← b
  e ← term_of x
  Some (ChooseNamed e first second)

-- ["setat", array, expression, expression]
unfoldable pub cell_set_of : Data → Data → Data → Option NamedStatement
cell_set_of x y z = do
  name ← name_at x
  index ← term_of y
  e ← term_of z
  Some (SetCellNamed name index e)

-- ["while", most, expression, [..]], of what the list is
unfoldable pub loop_of : Data → Data → Option NamedBody → Option NamedStatement
loop_of x y b = do
  turn ← b
  e ← term_of y
  most ← integer_at x
  Some (RepeatNamed most e turn)

abbrev mutual
  -- a statement: a list of a word and its parts
  pub statement_of : Data → Option NamedStatement
  statement_of (array (item w (item x (item y no_items)))) = do
    word ← as_str w
    assignment_of word x y
  statement_of (array (item w (item x (item y (item z no_items))))) = do
    word ← as_str w
    if bytes_eq word (codes "if") then choice_of x (body_of y) (body_of z) else
        (if bytes_eq word (codes "while") then loop_of x y (body_of z) else
        (if bytes_eq word (codes "setat") then cell_set_of x y z else scheduling_of word x y z))
  statement_of _ = None

  -- a list of statements
  pub body_of : Data → Option NamedBody
  body_of (array ds) = statements_of ds
  body_of _ = None

  -- statements, one after another
  pub statements_of : Items → Option NamedBody
  statements_of no_items = Some NamedDone
  statements_of (item d ds) = do
    s ← statement_of d
    ss ← statements_of ds
    Some (NamedThen s ss)
