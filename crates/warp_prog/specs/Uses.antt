-- What a body does with names, and what a name stands for in a reactor.
use Rattle.std.specs.Prelude.{Bool, ◌||◌, List, [], ◌∷◌, ◌++◌, map, bytes_eq, codes}
use Rattle.std.specs.List.{list_any}
use Rattle.warp_prog.specs.File.{Word, ReactorPart, ArrayPart}
use Rattle.warp_prog.specs.File.{NamedTerm, Literal, Named, PresentNamed, OneNamed, TwoNamed, ChoiceNamed, ProductNamed, CellNamed, TimeNamed, MicrostepNamed}
use Rattle.warp_prog.specs.File.{NamedStatement, SetNamed, PutNamed, ScheduleNamed, ChooseNamed, SetCellNamed, RepeatNamed, NamedBody, NamedDone, NamedThen}
use Rattle.warp_prog.specs.declared.file.VariablePart.{VariablePart}
use Rattle.warp_prog.specs.declared.file.ActionPart.{ActionPart}
use Rattle.warp_prog.specs.declared.file.TimerPart.{TimerPart}

-- what a body does with a name: it reads its value, asks whether it is present, sets it, puts it or schedules it, or reads or sets a
-- cell of it
pub data Use : Type 0 where
  Reads : Word → Use
  Asks : Word → Use
  Sets : Word → Use
  Puts : Word → Use
  Schedules : Word → Use
  Indexes : Word → Use

-- the uses in an expression
abbrev pub term_uses : NamedTerm → List Use
term_uses (Literal n) = []
term_uses (Named name) = Reads name ∷ []
term_uses (PresentNamed name) = Asks name ∷ []
term_uses (OneNamed op a) = term_uses a
term_uses (TwoNamed op a b) = term_uses a ++ term_uses b
term_uses (ChoiceNamed c a b) = term_uses c ++ (term_uses a ++ term_uses b)
term_uses (ProductNamed a b c) = term_uses a ++ (term_uses b ++ term_uses c)
term_uses (CellNamed name index) = Indexes name ∷ term_uses index
term_uses TimeNamed = []
term_uses MicrostepNamed = []

abbrev mutual
  -- the uses in a statement, and in all inside it
  pub statement_uses : NamedStatement → List Use
  statement_uses (SetNamed name e) = Sets name ∷ term_uses e
  statement_uses (PutNamed name e) = Puts name ∷ term_uses e
  statement_uses (ScheduleNamed name delay e) = Schedules name ∷ term_uses e
  statement_uses (ChooseNamed e first second) = term_uses e ++ (body_uses first ++ body_uses second)
  statement_uses (SetCellNamed name index e) = Indexes name ∷ (term_uses index ++ term_uses e)
  statement_uses (RepeatNamed most e body) = term_uses e ++ body_uses body

  -- the uses in a list of statements
  pub body_uses : NamedBody → List Use
  body_uses NamedDone = []
  body_uses (NamedThen s ss) = statement_uses s ++ body_uses ss

-- the name that stands for the start of a program
abbrev pub startup : Word
startup = codes "startup"

-- whether a name is one of these
abbrev pub is_among : List Word → Word → Bool
is_among names name = list_any (bytes_eq name) names

-- the names of a reactor's variables, arrays, actions and timers
abbrev pub variable_names : ReactorPart → List Word
variable_names r = map (λ (v : VariablePart). v.name) r.variables

abbrev pub array_names : ReactorPart → List Word
array_names r = map (λ (a : ArrayPart). a.name) r.arrays

abbrev pub action_names : ReactorPart → List Word
action_names r = map (λ (a : ActionPart). a.name) r.actions

abbrev pub timer_names : ReactorPart → List Word
timer_names r = map (λ (t : TimerPart). t.name) r.timers

-- a name of what carries a value at a tag: an input or an action
abbrev pub carries_value : ReactorPart → Word → Bool
carries_value r name = is_among r.inputs name || is_among (action_names r) name

-- a name of what can start a reaction: an input, an action, a timer or `startup`
abbrev pub is_trigger : ReactorPart → Word → Bool
is_trigger r name = carries_value r name || (is_among (timer_names r) name || bytes_eq name startup)
