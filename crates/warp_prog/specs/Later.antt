-- Words that came with version 4: no file of another version may have them.
use Rattle.std.specs.Prelude.{Bool, true, false, ◌||◌, List}
use Rattle.std.specs.List.{list_any}
use Rattle.warp_body.specs.declared.operator.UnaryOperator.{UnaryOperator}
use Rattle.warp_body.specs.declared.operator.UnaryOperator.TheVariants.{Negate, Not, Absolute}
use Rattle.warp_body.specs.declared.operator.BinaryOperator.{BinaryOperator}
use Rattle.warp_body.specs.declared.operator.BinaryOperator.TheVariants.{Add, Subtract, Multiply, Divide, Remainder, Equal, Less, And, Or, Minimum, Maximum, BitAnd, BitOr, BitXor, ShiftLeft, ShiftRight, Mix}
use Rattle.warp_prog.specs.File.{ReactorPart, ReactionPart, NamedTerm, Literal, Named, PresentNamed, OneNamed, TwoNamed, ChoiceNamed, ProductNamed, CellNamed, TimeNamed, MicrostepNamed}
use Rattle.warp_prog.specs.File.{NamedStatement, SetNamed, PutNamed, ScheduleNamed, ChooseNamed, SetCellNamed, RepeatNamed, NamedBody, NamedDone, NamedThen}

-- the operators that did, over one part and over two
abbrev pub is_later_unary : UnaryOperator → Bool
is_later_unary Negate = false
is_later_unary Not = false
is_later_unary Absolute = true

abbrev pub is_later : BinaryOperator → Bool
is_later Add = false
is_later Subtract = false
is_later Multiply = false
is_later Divide = false
is_later Remainder = false
is_later Equal = false
is_later Less = false
is_later And = false
is_later Or = false
is_later Minimum = true
is_later Maximum = true
is_later BitAnd = true
is_later BitOr = true
is_later BitXor = true
is_later ShiftLeft = true
is_later ShiftRight = true
is_later Mix = true

-- one stands in an expression
abbrev pub term_uses_later : NamedTerm → Bool
term_uses_later (Literal n) = false
term_uses_later (Named name) = false
term_uses_later (PresentNamed name) = false
term_uses_later (OneNamed op a) = is_later_unary op || term_uses_later a
term_uses_later (TwoNamed op a b) = is_later op || term_uses_later a || term_uses_later b
term_uses_later (ChoiceNamed c a b) = term_uses_later c || term_uses_later a || term_uses_later b
term_uses_later (ProductNamed a b c) = true
term_uses_later (CellNamed name index) = true
term_uses_later TimeNamed = true
term_uses_later MicrostepNamed = true

-- in a statement, and in a list of statements
abbrev mutual
  pub statement_uses_later : NamedStatement → Bool
  statement_uses_later (SetNamed name e) = term_uses_later e
  statement_uses_later (PutNamed name e) = term_uses_later e
  statement_uses_later (ScheduleNamed name delay e) = term_uses_later e
  statement_uses_later (ChooseNamed e first second) = term_uses_later e || body_uses_later first || body_uses_later second
  statement_uses_later (SetCellNamed name index e) = true
  statement_uses_later (RepeatNamed most e body) = true

  pub body_uses_later : NamedBody → Bool
  body_uses_later NamedDone = false
  body_uses_later (NamedThen s ss) = statement_uses_later s || body_uses_later ss

-- in the reactions of a reactor, and of reactors
abbrev pub reactor_uses_later : ReactorPart → Bool
reactor_uses_later r = list_any (λ (n : ReactionPart). body_uses_later n.body) r.reactions

abbrev pub any_uses_later : List ReactorPart → Bool
any_uses_later rs = list_any reactor_uses_later rs
