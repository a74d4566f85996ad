-- A program file as a tree: all that stands in it, with names in the place of numbers, and numbers of any size.
-- The parts that hold no list are the declared types: PortName, VariablePart, CalledPart, PendingPart, ActionPart, TimerPart,
-- LinkPart, InputPart.
use Rattle.std.specs.Prelude.{ℕ, ℤ, List, Option}
use Rattle.warp_body.specs.declared.operator.UnaryOperator.{UnaryOperator}
use Rattle.warp_body.specs.declared.operator.BinaryOperator.{BinaryOperator}
use Rattle.warp_prog.specs.declared.file.PortName.{PortName}
use Rattle.warp_prog.specs.declared.file.VariablePart.{VariablePart}
use Rattle.warp_prog.specs.declared.file.CalledPart.{CalledPart}
use Rattle.warp_prog.specs.declared.file.PendingPart.{PendingPart}
use Rattle.warp_prog.specs.declared.file.ActionPart.{ActionPart}
use Rattle.warp_prog.specs.declared.file.TimerPart.{TimerPart}
use Rattle.warp_prog.specs.declared.file.LinkPart.{LinkPart}
use Rattle.warp_prog.specs.declared.file.InputPart.{InputPart}

-- a name: its bytes
abbrev pub Word : Type 0
Word = List ℕ

-- an expression whose variables, inputs and actions are named: a number, what a name stands for, whether a name is present,
-- an operator over one or two parts, a choice, a product over a divisor, a cell of an array by its name, and the time and the
-- microstep of the tag that is executed
pub data NamedTerm : Type 0 where
  Literal : ℤ → NamedTerm
  Named : Word → NamedTerm
  PresentNamed : Word → NamedTerm
  OneNamed : UnaryOperator → NamedTerm → NamedTerm
  TwoNamed : BinaryOperator → NamedTerm → NamedTerm → NamedTerm
  ChoiceNamed : NamedTerm → NamedTerm → NamedTerm → NamedTerm
  ProductNamed : NamedTerm → NamedTerm → NamedTerm → NamedTerm
  CellNamed : Word → NamedTerm → NamedTerm
  TimeNamed : NamedTerm
  MicrostepNamed : NamedTerm

mutual
  -- a statement: a variable, an output or an action by its name, with a delay where it schedules; two lists under a test; a cell of
  -- an array by its name; or a list that is run again and again, at most so many times
  pub data NamedStatement : Type 0 where
    SetNamed : Word → NamedTerm → NamedStatement
    PutNamed : Word → NamedTerm → NamedStatement
    ScheduleNamed : Word → ℤ → NamedTerm → NamedStatement
    ChooseNamed : NamedTerm → NamedBody → NamedBody → NamedStatement
    SetCellNamed : Word → NamedTerm → NamedTerm → NamedStatement
    RepeatNamed : ℤ → NamedTerm → NamedBody → NamedStatement

  -- a list of statements
  pub data NamedBody : Type 0 where
    NamedDone : NamedBody
    NamedThen : NamedStatement → NamedBody → NamedBody

-- a reaction: the names that it is on, that it reads and that it writes, and its body
pub record ReactionPart : Type 0 where
  pub triggers : List Word
  pub reads : List Word
  pub writes : List Word
  pub body : NamedBody

-- with what the cells of an array start: all with a number, or the first ones each with its own, and the others with 0
pub data StartPart : Type 0 where
  OfAll : ℤ → StartPart
  OfEach : List ℤ → StartPart

-- an array: its name, how many cells it has, and with what they start
pub record ArrayPart : Type 0 where
  pub name : Word
  pub count : ℤ
  pub start : StartPart

-- where a program begins that goes on from another one: what is pending, how many entries were lost, and the sum of the times at
-- which those before it ended
pub record BeginPart : Type 0 where
  pub pending : List PendingPart
  pub lost : ℤ
  pub since : ℤ

-- a reactor: its name, and what stands in it, in order; how people call what is in it, and which of its variables are hidden
pub record ReactorPart : Type 0 where
  pub name : Word
  pub variables : List VariablePart
  pub arrays : List ArrayPart
  pub inputs : List Word
  pub outputs : List Word
  pub actions : List ActionPart
  pub timers : List TimerPart
  pub reactions : List ReactionPart
  pub called : List CalledPart
  pub hidden : List Word

-- a file
pub record File : Type 0 where
  pub version : ℤ
  pub stop : ℤ
  pub origins : ℤ
  pub begin : Option BeginPart
  pub reactors : List ReactorPart
  pub links : List LinkPart
  pub inputs : List InputPart
  pub outputs : List PortName
