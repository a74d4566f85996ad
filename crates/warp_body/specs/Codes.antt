-- Codes of targets, expressions and bodies, so that a model's value may have them: trees are stored as a list of marks
-- in postfix order.
use Rattle.std.specs.Prelude.{◌≡◌, ℕ, ℤ, pos, List, [], ◌∷◌, ◌==◌, slice_index_or, if◌then◌else◌, refl}
use Rattle.std.specs.Coded.{Coded, code_by, coded×, coded_ℕ, coded_ℤ, coded_list}
use Rattle.std.proofs.Common.{◌∙◌, ap}
use Rattle.warp_body.specs.Presence.{kind_of, number_of}
use Rattle.warp_body.specs.Term.{Term, Constant, VariableAt, ValueAt, PresentAt, OfOne, OfTwo, Choice, ProductOver, CellAt, TimeNow, MicrostepNow}
use Rattle.warp_body.specs.Effect.{Statement, SetVariable, PutOutput, ScheduleAction, Choose, SetCell, Repeat, Body, Done, Then}
use Rattle.warp_body.specs.declared.place.Target.{Target}
use Rattle.warp_body.specs.declared.place.Target.TheVariants.{Startup, Timer, Action, Port}
use Rattle.warp_body.specs.declared.operator.UnaryOperator.{UnaryOperator}
use Rattle.warp_body.specs.declared.operator.UnaryOperator.TheVariants.{Negate, Not, Absolute}
use Rattle.warp_body.specs.declared.operator.BinaryOperator.{BinaryOperator}
use Rattle.warp_body.specs.declared.operator.BinaryOperator.TheVariants.{Add, Subtract, Multiply, Divide, Remainder, Equal, Less, And, Or, Minimum, Maximum, BitAnd, BitOr, BitXor, ShiftLeft, ShiftRight, Mix}

-- the target of this kind with this number
abbrev pub target_at : ℕ → ℕ → Target
target_at kind n = if kind == 0 then Startup else (if kind == 1 then Timer n else (if kind == 2 then Action n else Port n))

-- a target is the one with its own kind and number
pub target_at-own : (target : Target) → target_at (kind_of target) (number_of target) ≡ target
target_at-own Startup = refl
target_at-own (Timer n) = refl
target_at-own (Action n) = refl
target_at-own (Port n) = refl

-- a target is stored as its kind and its number
abbrev pub target_code : Coded Target
target_code = code_by (ℕ × ℕ) (coded× coded_ℕ coded_ℕ) (λ t. (kind_of t, number_of t)) (λ p. target_at p.0 p.1) target_at-own

-- the place of an operator among those of one operand
abbrev pub unary_number : UnaryOperator → ℕ
unary_number Negate = 0
unary_number Not = 1
unary_number Absolute = 2

-- the place of an operator among those of two operands
abbrev pub binary_number : BinaryOperator → ℕ
binary_number Add = 0
binary_number Subtract = 1
binary_number Multiply = 2
binary_number Divide = 3
binary_number Remainder = 4
binary_number Equal = 5
binary_number Less = 6
binary_number And = 7
binary_number Or = 8
binary_number Minimum = 9
binary_number Maximum = 10
binary_number BitAnd = 11
binary_number BitOr = 12
binary_number BitXor = 13
binary_number ShiftLeft = 14
binary_number ShiftRight = 15
binary_number Mix = 16

-- the operator of one operand at this place
abbrev pub unary_at : ℕ → UnaryOperator
unary_at n = if n == 0 then Negate else (if n == 1 then Not else Absolute)

-- the operator of two operands at this place
abbrev pub binary_at : ℕ → BinaryOperator
binary_at n =
    if n == 0 then Add else (if n == 1 then Subtract else (if n == 2 then Multiply else (if n == 3 then Divide else
    (if n == 4 then Remainder else (if n == 5 then Equal else (if n == 6 then Less else (if n == 7 then And else
    (if n == 8 then Or else (if n == 9 then Minimum else (if n == 10 then Maximum else (if n == 11 then BitAnd else
    (if n == 12 then BitOr else (if n == 13 then BitXor else (if n == 14 then ShiftLeft else
    (if n == 15 then ShiftRight else Mix)))))))))))))))

-- an operator is the one at its own place
pub unary_at-own : (o : UnaryOperator) → unary_at (unary_number o) ≡ o
unary_at-own Negate = refl
unary_at-own Not = refl
unary_at-own Absolute = refl

-- and so is one of two operands
pub binary_at-own : (o : BinaryOperator) → binary_at (binary_number o) ≡ o
binary_at-own Add = refl
binary_at-own Subtract = refl
binary_at-own Multiply = refl
binary_at-own Divide = refl
binary_at-own Remainder = refl
binary_at-own Equal = refl
binary_at-own Less = refl
binary_at-own And = refl
binary_at-own Or = refl
binary_at-own Minimum = refl
binary_at-own Maximum = refl
binary_at-own BitAnd = refl
binary_at-own BitOr = refl
binary_at-own BitXor = refl
binary_at-own ShiftLeft = refl
binary_at-own ShiftRight = refl
binary_at-own Mix = refl

-- one node of an expression or a body: its kind, two numbers (of a place, its kind, an operator or a delay), and a number
abbrev pub Mark : Type 0
Mark = ℕ × (ℕ × (ℕ × ℤ))

-- a node without a number
abbrev mark : ℕ → ℕ → ℕ → Mark
mark kind a b = (kind, (a, (b, pos 0)))

-- the expression's nodes in postfix order, in front of these
abbrev pub spelled : Term → List Mark → List Mark
spelled (Constant n) rest = (0, (0, (0, n))) ∷ rest
spelled (VariableAt k) rest = mark 1 k 0 ∷ rest
spelled (ValueAt target) rest = mark 2 (kind_of target) (number_of target) ∷ rest
spelled (PresentAt target) rest = mark 3 (kind_of target) (number_of target) ∷ rest
spelled (OfOne o a) rest = spelled a (mark 4 (unary_number o) 0 ∷ rest)
spelled (OfTwo o a b) rest = spelled a (spelled b (mark 5 (binary_number o) 0 ∷ rest))
spelled (Choice c a b) rest = spelled c (spelled a (spelled b (mark 6 0 0 ∷ rest)))
spelled (ProductOver a b c) rest = spelled a (spelled b (spelled c (mark 15 0 0 ∷ rest)))
spelled (CellAt first count index) rest = spelled index (mark 12 first count ∷ rest)
spelled TimeNow rest = mark 16 0 0 ∷ rest
spelled MicrostepNow rest = mark 17 0 0 ∷ rest

-- the same of a statement and of a body, whose last statements come first
abbrev mutual
  pub spelled_one : Statement → List Mark → List Mark
  spelled_one (SetVariable k e) rest = spelled e (mark 8 k 0 ∷ rest)
  spelled_one (PutOutput port e) rest = spelled e (mark 9 port 0 ∷ rest)
  spelled_one (ScheduleAction action delay e) rest = spelled e (mark 10 action delay ∷ rest)
  spelled_one (Choose e first second) rest = spelled e (spelled_body first (spelled_body second (mark 11 0 0 ∷ rest)))
  spelled_one (SetCell first count index e) rest = spelled index (spelled e (mark 13 first count ∷ rest))
  spelled_one (Repeat most e body) rest = spelled e (spelled_body body (mark 14 most 0 ∷ rest))

  pub spelled_body : Body → List Mark → List Mark
  spelled_body Done rest = mark 7 0 0 ∷ rest
  spelled_body (Then s ss) rest = spelled_body ss (spelled_one s rest)

-- what was read so far, newest first: expressions, and bodies
pub record Stacks : Type 0 where
  pub terms : List Term
  pub bodies : List Body

-- with one more expression
abbrev pub with_term : Term → Stacks → Stacks
with_term t now = record { terms = t ∷ now.terms; bodies = now.bodies }

-- with one more body
abbrev pub with_body : Body → Stacks → Stacks
with_body b now = record { terms = now.terms; bodies = b ∷ now.bodies }

-- the newest expression as the operand of an operator
abbrev pub of_newest : UnaryOperator → List Term → List Term
of_newest o [] = []
of_newest o (a ∷ ts) = OfOne o a ∷ ts

-- the two newest as the operands of an operator
abbrev pub of_two_newest : BinaryOperator → List Term → List Term
of_two_newest o [] = []
of_two_newest o (b ∷ []) = []
of_two_newest o (b ∷ (a ∷ ts)) = OfTwo o a b ∷ ts

-- the three newest as a choice
abbrev pub choice_of_newest : List Term → List Term
choice_of_newest [] = []
choice_of_newest (b ∷ []) = []
choice_of_newest (b ∷ (a ∷ [])) = []
choice_of_newest (b ∷ (a ∷ (c ∷ ts))) = Choice c a b ∷ ts

-- and as a product over a divisor
abbrev pub product_of_newest : List Term → List Term
product_of_newest [] = []
product_of_newest (c ∷ []) = []
product_of_newest (c ∷ (b ∷ [])) = []
product_of_newest (c ∷ (b ∷ (a ∷ ts))) = ProductOver a b c ∷ ts

-- the newest as the number of a cell
abbrev pub cell_of_newest : ℕ → ℕ → List Term → List Term
cell_of_newest first count [] = []
cell_of_newest first count (index ∷ ts) = CellAt first count index ∷ ts

-- the newest body with one more statement in front
abbrev pub in_front : Statement → List Body → List Body
in_front s [] = []
in_front s (b ∷ bs) = Then s b ∷ bs

-- the statement of this kind on this expression
abbrev pub statement_at : Mark → Term → Statement
statement_at m e =
    if m.0 == 8 then SetVariable m.1.0 e else (if m.0 == 9 then PutOutput m.1.0 e else ScheduleAction m.1.0 m.1.1.0 e)

-- the newest expression in a statement of this kind, in front of the newest body
abbrev pub with_statement : Mark → List Term → List Body → Stacks
with_statement m [] bodies = record { terms = []; bodies = bodies }
with_statement m (e ∷ ts) bodies = record { terms = ts; bodies = in_front (statement_at m e) bodies }

-- the newest expression and the two newest bodies as a choice, in front of the body before them
abbrev pub with_choice : List Term → List Body → Stacks
with_choice [] bodies = record { terms = []; bodies = bodies }
with_choice (e ∷ ts) [] = record { terms = ts; bodies = [] }
with_choice (e ∷ ts) (b ∷ []) = record { terms = ts; bodies = [] }
with_choice (e ∷ ts) (b ∷ (a ∷ bs)) = record { terms = ts; bodies = in_front (Choose e a b) bs }

-- the two newest expressions as the number and the value of a cell, in front of the newest body
abbrev pub with_set_cell : ℕ → ℕ → List Term → List Body → Stacks
with_set_cell first count [] bodies = record { terms = []; bodies = bodies }
with_set_cell first count (e ∷ []) bodies = record { terms = []; bodies = bodies }
with_set_cell first count (e ∷ (index ∷ ts)) bodies = record { terms = ts; bodies = in_front (SetCell first count index e) bodies }

-- the newest expression and the newest body as a loop, in front of the body before it
abbrev pub with_loop : ℕ → List Term → List Body → Stacks
with_loop most [] bodies = record { terms = []; bodies = bodies }
with_loop most (e ∷ ts) [] = record { terms = ts; bodies = [] }
with_loop most (e ∷ ts) (b ∷ bs) = record { terms = ts; bodies = in_front (Repeat most e b) bs }

-- what was read so far, after one more node
abbrev pub with_mark : Mark → Stacks → Stacks
with_mark m now =
    if m.0 == 0 then with_term (Constant m.1.1.1) now else
    (if m.0 == 1 then with_term (VariableAt m.1.0) now else
    (if m.0 == 2 then with_term (ValueAt (target_at m.1.0 m.1.1.0)) now else
    (if m.0 == 3 then with_term (PresentAt (target_at m.1.0 m.1.1.0)) now else
    (if m.0 == 4 then record now { terms = of_newest (unary_at m.1.0) now.terms } else
    (if m.0 == 5 then record now { terms = of_two_newest (binary_at m.1.0) now.terms } else
    (if m.0 == 6 then record now { terms = choice_of_newest now.terms } else
    (if m.0 == 15 then record now { terms = product_of_newest now.terms } else
    (if m.0 == 12 then record now { terms = cell_of_newest m.1.0 m.1.1.0 now.terms } else
    (if m.0 == 16 then with_term TimeNow now else
    (if m.0 == 17 then with_term MicrostepNow now else
    (if m.0 == 7 then with_body Done now else
    (if m.0 == 11 then with_choice now.terms now.bodies else
    (if m.0 == 13 then with_set_cell m.1.0 m.1.1.0 now.terms now.bodies else
    (if m.0 == 14 then with_loop m.1.0 now.terms now.bodies else with_statement m now.terms now.bodies))))))))))))))

-- and after a list of nodes
abbrev pub read : List Mark → Stacks → Stacks
read [] now = now
read (m ∷ ms) now = read ms (with_mark m now)

-- the newest expression, 0 where there is none
abbrev pub newest_term : Stacks → Term
newest_term now = slice_index_or now.terms 0 (Constant (pos 0))

-- the newest body, the empty one where there is none
abbrev pub newest_body : Stacks → Body
newest_body now = slice_index_or now.bodies 0 Done

-- nothing was read yet
abbrev pub nothing_read : Stacks
nothing_read = record { terms = []; bodies = [] }

-- reading gives back the expression that was spelled
pub read-spelled : (t : Term) (rest : List Mark) (now : Stacks) → read (spelled t rest) now ≡ read rest (with_term t now)
read-spelled (Constant n) rest now = refl
read-spelled (VariableAt k) rest now = refl
read-spelled (ValueAt target) rest now = ap (λ t. read rest (with_term (ValueAt t) now)) (target_at-own target)
read-spelled (PresentAt target) rest now = ap (λ t. read rest (with_term (PresentAt t) now)) (target_at-own target)
read-spelled (OfOne o a) rest now =
    read-spelled a (mark 4 (unary_number o) 0 ∷ rest) now ∙ ap (λ p. read rest (with_term (OfOne p a) now)) (unary_at-own o)
read-spelled (OfTwo o a b) rest now =
    read-spelled a (spelled b (mark 5 (binary_number o) 0 ∷ rest)) now
    ∙ read-spelled b (mark 5 (binary_number o) 0 ∷ rest) (with_term a now)
    ∙ ap (λ p. read rest (with_term (OfTwo p a b) now)) (binary_at-own o)
read-spelled (Choice c a b) rest now =
    read-spelled c (spelled a (spelled b (mark 6 0 0 ∷ rest))) now
    ∙ read-spelled a (spelled b (mark 6 0 0 ∷ rest)) (with_term c now)
    ∙ read-spelled b (mark 6 0 0 ∷ rest) (with_term a (with_term c now))
read-spelled (ProductOver a b c) rest now =
    read-spelled a (spelled b (spelled c (mark 15 0 0 ∷ rest))) now
    ∙ read-spelled b (spelled c (mark 15 0 0 ∷ rest)) (with_term a now)
    ∙ read-spelled c (mark 15 0 0 ∷ rest) (with_term b (with_term a now))
read-spelled (CellAt first count index) rest now = read-spelled index (mark 12 first count ∷ rest) now
read-spelled TimeNow rest now = refl
read-spelled MicrostepNow rest now = refl

-- and the statement, in front of the newest body, and the body
mutual
  pub read-spelled_one : (s : Statement) (rest : List Mark) (b : Body) (now : Stacks) →
      read (spelled_one s rest) (with_body b now) ≡ read rest (with_body (Then s b) now)
  read-spelled_one (SetVariable k e) rest b now = read-spelled e (mark 8 k 0 ∷ rest) (with_body b now)
  read-spelled_one (PutOutput port e) rest b now = read-spelled e (mark 9 port 0 ∷ rest) (with_body b now)
  read-spelled_one (ScheduleAction action delay e) rest b now = read-spelled e (mark 10 action delay ∷ rest) (with_body b now)
  read-spelled_one (Choose e first second) rest b now =
      read-spelled e (spelled_body first (spelled_body second (mark 11 0 0 ∷ rest))) (with_body b now)
      ∙ read-spelled_body first (spelled_body second (mark 11 0 0 ∷ rest)) (with_term e (with_body b now))
      ∙ read-spelled_body second (mark 11 0 0 ∷ rest) (with_body first (with_term e (with_body b now)))
  read-spelled_one (SetCell first count index e) rest b now =
      read-spelled index (spelled e (mark 13 first count ∷ rest)) (with_body b now)
      ∙ read-spelled e (mark 13 first count ∷ rest) (with_term index (with_body b now))
  read-spelled_one (Repeat most e body) rest b now =
      read-spelled e (spelled_body body (mark 14 most 0 ∷ rest)) (with_body b now)
      ∙ read-spelled_body body (mark 14 most 0 ∷ rest) (with_term e (with_body b now))

  pub read-spelled_body : (b : Body) (rest : List Mark) (now : Stacks) → read (spelled_body b rest) now ≡ read rest (with_body b now)
  read-spelled_body Done rest now = refl
  read-spelled_body (Then s ss) rest now =
      read-spelled_body ss (spelled_one s rest) now ∙ read-spelled_one s rest ss now

-- a list of nodes is stored as numbers
abbrev pub marks_code : Coded (List Mark)
marks_code = coded_list (coded× coded_ℕ (coded× coded_ℕ (coded× coded_ℕ coded_ℤ)))

-- an expression is stored as its nodes
abbrev pub term_code : Coded Term
term_code =
    code_by (List Mark) marks_code (λ t. spelled t []) (λ ms. newest_term (read ms nothing_read)) (λ t. ap newest_term (read-spelled t [] nothing_read))

-- a body is stored as its nodes
abbrev pub body_code : Coded Body
body_code =
    code_by (List Mark) marks_code (λ b. spelled_body b []) (λ ms. newest_body (read ms nothing_read)) (λ b. ap newest_body (read-spelled_body b [] nothing_read))

-- the first statement of a body, in an empty one a set of variable 0 to 0
abbrev pub first_statement : Body → Statement
first_statement Done = SetVariable 0 (Constant (pos 0))
first_statement (Then s rest) = s

-- a statement is stored as the body of it alone
abbrev pub statement_code : Coded Statement
statement_code = code_by Body body_code (λ s. Then s Done) first_statement (λ s. refl)
