-- A program file as one text, by which programs are told apart: JSON with no white space, each key there, in this order, but those
-- that came with version 4, which are there where the file has something under them, and every list in the order of the file.
-- No name has a byte that JSON writes otherwise, so the text is a program file, which is read back as this one: two files with one
-- text are the same tree.
use Rattle.std.specs.Prelude.{◌≡◌, ℕ, ℤ, ◌+◌, ◌==◌, List, [], ◌∷◌, ◌++◌, Option, None, Some, Ok, codes, map, unwrap_or, if◌then◌else◌}
use Rattle.std.specs.Fmt.{signed_decimal}
use Rattle.sha2.specs.Sha256.{sha256}
use Rattle.hex.specs.Hex.{encode_lower}
use Rattle.warp_body.specs.declared.operator.UnaryOperator.{UnaryOperator}
use Rattle.warp_body.specs.declared.operator.UnaryOperator.TheVariants.{Negate, Not, Absolute}
use Rattle.warp_body.specs.declared.operator.BinaryOperator.{BinaryOperator}
use Rattle.warp_body.specs.declared.operator.BinaryOperator.TheVariants.{Add, Subtract, Multiply, Divide, Remainder, Equal, Less, And, Or, Minimum, Maximum, BitAnd, BitOr, BitXor, ShiftLeft, ShiftRight, Mix}
use Rattle.warp_prog.specs.Explain.{port_label}
use Rattle.warp_prog.specs.File.{Word, File, ReactorPart, ReactionPart, ArrayPart, StartPart, OfAll, OfEach, BeginPart}
use Rattle.warp_prog.specs.File.{NamedTerm, Literal, Named, PresentNamed, OneNamed, TwoNamed, ChoiceNamed, ProductNamed, CellNamed, TimeNamed, MicrostepNamed}
use Rattle.warp_prog.specs.File.{NamedStatement, SetNamed, PutNamed, ScheduleNamed, ChooseNamed, SetCellNamed, RepeatNamed, NamedBody, NamedDone, NamedThen}
use Rattle.warp_prog.specs.Reading.{reading_of}
use Rattle.warp_prog.specs.declared.file.PortName.{PortName}
use Rattle.warp_prog.specs.declared.file.VariablePart.{VariablePart}
use Rattle.warp_prog.specs.declared.file.CalledPart.{CalledPart}
use Rattle.warp_prog.specs.declared.file.PendingPart.{PendingPart}
use Rattle.warp_prog.specs.declared.file.ActionPart.{ActionPart}
use Rattle.warp_prog.specs.declared.file.TimerPart.{TimerPart}
use Rattle.warp_prog.specs.declared.file.LinkPart.{LinkPart}
use Rattle.warp_prog.specs.declared.file.InputPart.{InputPart}

-- what stands before the item with this number of a list: a comma, but before the first
abbrev pub comma : ℕ → List ℕ
comma n = if n == 0 then [] else codes ","

-- these texts, the first of which has this number in its list, with commas between them
abbrev pub separated : ℕ → List (List ℕ) → List ℕ
separated n [] = []
separated n (t ∷ ts) = (comma n ++ t) ++ separated (n + 1) ts

-- a list of these texts
abbrev pub listed : List (List ℕ) → List ℕ
listed ts = codes "[" ++ separated 0 ts ++ codes "]"

-- a text between quotation marks
abbrev pub quoted : List ℕ → List ℕ
quoted w = codes "\"" ++ w ++ codes "\""

-- the word of an operator over one part
abbrev pub unary_word : UnaryOperator → List ℕ
unary_word Negate = codes "neg"
unary_word Not = codes "not"
unary_word Absolute = codes "abs"

-- the word of an operator over two parts
abbrev pub binary_word : BinaryOperator → List ℕ
binary_word Add = codes "+"
binary_word Subtract = codes "-"
binary_word Multiply = codes "*"
binary_word Divide = codes "/"
binary_word Remainder = codes "%"
binary_word Equal = codes "="
binary_word Less = codes "<"
binary_word And = codes "and"
binary_word Or = codes "or"
binary_word Minimum = codes "min"
binary_word Maximum = codes "max"
binary_word BitAnd = codes "&"
binary_word BitOr = codes "|"
binary_word BitXor = codes "^"
binary_word ShiftLeft = codes "<<"
binary_word ShiftRight = codes ">>"
binary_word Mix = codes "mix"

-- the front of a list that begins with a word
abbrev pub word_front : List ℕ → List ℕ
word_front word = codes "[\"" ++ word ++ codes "\","

-- an expression
abbrev pub term_text : NamedTerm → List ℕ
term_text (Literal n) = signed_decimal n
term_text (Named name) = quoted name
term_text (PresentNamed name) = word_front (codes "present") ++ quoted name ++ codes "]"
term_text (OneNamed op a) = word_front (unary_word op) ++ term_text a ++ codes "]"
term_text (TwoNamed op a b) = word_front (binary_word op) ++ term_text a ++ codes "," ++ term_text b ++ codes "]"
term_text (ChoiceNamed c a b) = word_front (codes "if") ++ term_text c ++ codes "," ++ term_text a ++ codes "," ++ term_text b ++ codes "]"
term_text (ProductNamed a b c) =
    word_front (codes "muldiv") ++ term_text a ++ codes "," ++ term_text b ++ codes "," ++ term_text c ++ codes "]"
term_text (CellNamed name index) = (word_front (codes "at") ++ quoted name) ++ codes "," ++ term_text index ++ codes "]"
term_text TimeNamed = codes "[\"time\"]"
term_text MicrostepNamed = codes "[\"micro\"]"

-- the front of a list that begins with a word and a name
abbrev pub named_front : List ℕ → Word → List ℕ
named_front word name = word_front word ++ quoted name

-- the end of a list whose last item is an expression
abbrev pub closing_text : NamedTerm → List ℕ
closing_text e = codes "," ++ term_text e ++ codes "]"

-- a statement of this word, with a name and an expression
abbrev pub assignment_text : List ℕ → Word → NamedTerm → List ℕ
assignment_text word name e = named_front word name ++ closing_text e

-- a statement that schedules
abbrev pub scheduling_text : Word → ℤ → NamedTerm → List ℕ
scheduling_text name delay e = named_front (codes "schedule") name ++ (codes "," ++ signed_decimal delay) ++ closing_text e

-- a statement that sets a cell
abbrev pub cell_set_text : Word → NamedTerm → NamedTerm → List ℕ
cell_set_text name index e = named_front (codes "setat") name ++ (codes "," ++ term_text index) ++ closing_text e

-- a loop, of which the list is these statements
abbrev pub loop_text : ℤ → NamedTerm → List ℕ → List ℕ
loop_text most e turn =
    ((word_front (codes "while") ++ signed_decimal most) ++ (codes "," ++ term_text e)) ++ (codes ",[" ++ turn) ++ codes "]]"

-- a statement that chooses between two lists, of which each is these statements
abbrev pub choice_text : NamedTerm → List ℕ → List ℕ → List ℕ
choice_text e first second =
    (word_front (codes "if") ++ term_text e) ++ (codes ",[" ++ first) ++ ((codes "],[" ++ second) ++ codes "]]")

abbrev mutual
  -- a statement
  pub statement_text : NamedStatement → List ℕ
  statement_text (SetNamed name e) = assignment_text (codes "set") name e
  statement_text (PutNamed name e) = assignment_text (codes "put") name e
  statement_text (ScheduleNamed name delay e) = scheduling_text name delay e
  statement_text (ChooseNamed e first second) = choice_text e (statements_text 0 first) (statements_text 0 second)
  statement_text (SetCellNamed name index e) = cell_set_text name index e
  statement_text (RepeatNamed most e body) = loop_text most e (statements_text 0 body)

  -- statements, the first of which has this number in its list, with commas between them
  pub statements_text : ℕ → NamedBody → List ℕ
  statements_text n NamedDone = []
  statements_text n (NamedThen s ss) = (comma n ++ statement_text s) ++ statements_text (n + 1) ss

-- a reaction
abbrev pub reaction_text : ReactionPart → List ℕ
reaction_text r =
    (codes "{\"on\":" ++ listed (map quoted r.triggers)) ++ (codes ",\"reads\":" ++ listed (map quoted r.reads))
    ++ (codes ",\"writes\":" ++ listed (map quoted r.writes)) ++ (codes ",\"body\":[" ++ statements_text 0 r.body) ++ codes "]}"

-- a port, a variable, an action, a timer
abbrev pub port_text : PortName → List ℕ
port_text p = quoted (port_label p)

abbrev pub variable_text : VariablePart → List ℕ
variable_text v = codes "[" ++ quoted v.name ++ codes "," ++ signed_decimal v.start ++ codes "]"

-- with what the cells of an array start, and an array
abbrev pub start_text : StartPart → List ℕ
start_text (OfAll n) = signed_decimal n
start_text (OfEach ns) = listed (map signed_decimal ns)

abbrev pub array_text : ArrayPart → List ℕ
array_text a = codes "[" ++ quoted a.name ++ codes "," ++ signed_decimal a.count ++ codes "," ++ start_text a.start ++ codes "]"

-- how people call a thing, and what is pending where a program begins
abbrev pub called_text : CalledPart → List ℕ
called_text c = codes "[" ++ quoted (unwrap_or c.name []) ++ codes "," ++ quoted c.text ++ codes "]"

abbrev pub pending_text : PendingPart → List ℕ
pending_text p =
    codes "[" ++ signed_decimal p.time ++ (codes "," ++ signed_decimal p.microstep) ++ codes "," ++ port_text p.target
    ++ (codes "," ++ signed_decimal p.value) ++ codes "]"

abbrev pub action_text : ActionPart → List ℕ
action_text a = codes "[" ++ quoted a.name ++ codes "," ++ signed_decimal a.delay ++ codes "]"

abbrev pub timer_text : TimerPart → List ℕ
timer_text t = codes "[" ++ quoted t.name ++ codes "," ++ signed_decimal t.offset ++ codes "," ++ signed_decimal t.period ++ codes "]"

-- the delay of a link behind its ports; nothing where it has none
abbrev pub delay_text : Option ℤ → List ℕ
delay_text None = []
delay_text (Some delay) = codes "," ++ signed_decimal delay

-- a link, and a program input
abbrev pub link_text : LinkPart → List ℕ
link_text l = codes "[" ++ port_text l.source ++ codes "," ++ port_text l.target ++ delay_text l.delay ++ codes "]"

abbrev pub input_text : InputPart → List ℕ
input_text i = codes "[" ++ signed_decimal i.origin ++ codes "," ++ port_text i.port ++ codes "]"

-- a key that came with version 4, and the list of these texts; nothing where there are none
abbrev pub part_unless_empty : List ℕ → List (List ℕ) → List ℕ
part_unless_empty key [] = []
part_unless_empty key (t ∷ ts) = key ++ listed (t ∷ ts)

-- a reactor: its name, its variables, its arrays and its ports; and the rest
abbrev pub reactor_front : ReactorPart → List ℕ
reactor_front r =
    (codes "{\"name\":" ++ quoted r.name) ++ (codes ",\"vars\":" ++ listed (map variable_text r.variables))
    ++ part_unless_empty (codes ",\"arrays\":") (map array_text r.arrays)
    ++ (codes ",\"inputs\":" ++ listed (map quoted r.inputs)) ++ (codes ",\"outputs\":" ++ listed (map quoted r.outputs))

abbrev pub reactor_rest : ReactorPart → List ℕ
reactor_rest r =
    (codes ",\"actions\":" ++ listed (map action_text r.actions)) ++ (codes ",\"timers\":" ++ listed (map timer_text r.timers))
    ++ (codes ",\"reactions\":" ++ listed (map reaction_text r.reactions))
    ++ part_unless_empty (codes ",\"called\":") (map called_text r.called)
    ++ part_unless_empty (codes ",\"hidden\":") (map quoted r.hidden) ++ codes "}"

abbrev pub reactor_text : ReactorPart → List ℕ
reactor_text r = reactor_front r ++ reactor_rest r

-- the numbers of a file, with their keys
abbrev pub head_text : File → List ℕ
head_text f =
    (codes "{\"version\":" ++ signed_decimal f.version) ++ (codes ",\"stop\":" ++ signed_decimal f.stop)
    ++ (codes ",\"origins\":" ++ signed_decimal f.origins)

-- where a file begins that goes on from another one, with its key
abbrev pub begin_text : BeginPart → List ℕ
begin_text b =
    (codes ",\"begin\":{\"pending\":" ++ listed (map pending_text b.pending)) ++ (codes ",\"lost\":" ++ signed_decimal b.lost)
    ++ (codes ",\"since\":" ++ signed_decimal b.since) ++ codes "}"

-- the same; nothing for a file that goes on from no other
abbrev pub begin_part : Option BeginPart → List ℕ
begin_part None = []
begin_part (Some b) = begin_text b

-- a file
abbrev pub canonical_of : File → List ℕ
canonical_of f =
    head_text f ++ (codes ",\"reactors\":" ++ listed (map reactor_text f.reactors))
    ++ (codes ",\"links\":" ++ listed (map link_text f.links))
    ++ (codes ",\"inputs\":" ++ listed (map input_text f.inputs)) ++ (codes ",\"outputs\":" ++ listed (map port_text f.outputs))
    ++ begin_part f.begin ++ codes "}"

-- bytes are a file whose text this is
abbrev pub IsCanonical : List ℕ → List ℕ → Type 0
IsCanonical bytes text = (f : File) × (reading_of bytes ≡ Ok f) × (text ≡ canonical_of f)

-- the fingerprint of a program with this text: its SHA-256 digest in 64 hex digits
abbrev pub fingerprint_of : List ℕ → List ℕ
fingerprint_of text = encode_lower (sha256 text)
