-- Expressions as they stand in a file.
use Rattle.std.specs.Prelude.{ℕ, List, Option, Some, None, option_map, codes, bytes_eq, if◌then◌else◌}
use Rattle.serde_json.specs.Data.{Data, number, string, array, no_items, item}
use Rattle.serde_json.specs.Find.{as_i64, as_str}
use Rattle.warp_prog.specs.Chain.{◌>>=◌}
use Rattle.warp_prog.specs.File.{Word, NamedTerm, Literal, Named, PresentNamed, OneNamed, TwoNamed, ChoiceNamed}
use Rattle.warp_prog.specs.File.{ProductNamed, CellNamed, TimeNamed, MicrostepNamed}
use Rattle.warp_prog.specs.Word.{name_of, name_at}
use Rattle.warp_body.specs.declared.operator.UnaryOperator.{UnaryOperator}
use Rattle.warp_body.specs.declared.operator.UnaryOperator.TheVariants.{Negate, Not, Absolute}
use Rattle.warp_body.specs.declared.operator.BinaryOperator.{BinaryOperator}
use Rattle.warp_body.specs.declared.operator.BinaryOperator.TheVariants.{Add, Subtract, Multiply, Divide, Remainder, Equal, Less, And, Or}
use Rattle.warp_body.specs.declared.operator.BinaryOperator.TheVariants.{Minimum, Maximum, BitAnd, BitOr, BitXor, ShiftLeft, ShiftRight, Mix}

-- the operator over one part with this word
abbrev pub unary_of : List ℕ → Option UnaryOperator
unary_of w =
    if bytes_eq w (codes "neg") then Some Negate
    else (if bytes_eq w (codes "not") then Some Not
    else (if bytes_eq w (codes "abs") then Some Absolute
    else None))

-- the operator over two parts with this word
abbrev pub binary_of : List ℕ → Option BinaryOperator
binary_of w =
    if bytes_eq w (codes "+") then Some Add
    else (if bytes_eq w (codes "-") then Some Subtract
    else (if bytes_eq w (codes "*") then Some Multiply
    else (if bytes_eq w (codes "/") then Some Divide
    else (if bytes_eq w (codes "%") then Some Remainder
    else (if bytes_eq w (codes "=") then Some Equal
    else (if bytes_eq w (codes "<") then Some Less
    else (if bytes_eq w (codes "and") then Some And
    else (if bytes_eq w (codes "or") then Some Or
    else (if bytes_eq w (codes "min") then Some Minimum
    else (if bytes_eq w (codes "max") then Some Maximum
    else (if bytes_eq w (codes "&") then Some BitAnd
    else (if bytes_eq w (codes "|") then Some BitOr
    else (if bytes_eq w (codes "^") then Some BitXor
    else (if bytes_eq w (codes "<<") then Some ShiftLeft
    else (if bytes_eq w (codes ">>") then Some ShiftRight
    else (if bytes_eq w (codes "mix") then Some Mix
    else None))))))))))))))))

-- an operator over one part
abbrev pub of_one : List ℕ → NamedTerm → Option NamedTerm
of_one w a = option_map (λ op. OneNamed op a) (unary_of w)

-- an operator over two parts
abbrev pub of_two : List ℕ → NamedTerm → NamedTerm → Option NamedTerm
of_two w a b = option_map (λ op. TwoNamed op a b) (binary_of w)

-- a choice, or a product over a divisor
abbrev pub of_three : List ℕ → NamedTerm → NamedTerm → NamedTerm → Option NamedTerm
of_three w c a b =
    if bytes_eq w (codes "if") then Some (ChoiceNamed c a b)
    else (if bytes_eq w (codes "muldiv") then Some (ProductNamed c a b) else None)

-- what a word says without parts: the time and the microstep of the tag that is executed
abbrev pub of_none : List ℕ → Option NamedTerm
of_none w = if bytes_eq w (codes "time") then Some TimeNamed else (if bytes_eq w (codes "micro") then Some MicrostepNamed else None)

-- a cell of an array, of what its name and its number are
abbrev pub cell_named : Option Word → Option NamedTerm → Option NamedTerm
cell_named name index = do
  n ← name
  i ← index
  Some (CellNamed n i)

-- an operator over two parts, of what these are
abbrev pub two_named : List ℕ → Option NamedTerm → Option NamedTerm → Option NamedTerm
two_named word a b = do
  first ← a
  second ← b
  of_two word first second

-- an expression: a number, a name, or a list of a word and its parts
abbrev pub term_of : Data → Option NamedTerm
term_of (number n) = option_map Literal (as_i64 n)
term_of (string s) = option_map Named (name_of s)
term_of (array (item w no_items)) = as_str w >>= of_none
term_of (array (item w (item a no_items))) = do
  word ← as_str w
  if bytes_eq word (codes "present") then option_map PresentNamed (name_at a) else term_of a >>= of_one word
term_of (array (item w (item a (item b no_items)))) = do
  word ← as_str w
  if bytes_eq word (codes "at") then cell_named (name_at a) (term_of b) else two_named word (term_of a) (term_of b)
term_of (array (item w (item c (item a (item b no_items))))) = do
  word ← as_str w
  test ← term_of c
  first ← term_of a
  second ← term_of b
  of_three word test first second
term_of _ = None
