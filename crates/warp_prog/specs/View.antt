-- The tree that the code's file stands for.
use Rattle.std.specs.Prelude.{List, [], ◌∷◌, map, option_map}
use Rattle.warp_prog.specs.File.{File, ReactorPart, ReactionPart, ArrayPart, StartPart, OfAll, OfEach, BeginPart}
use Rattle.warp_prog.specs.File.{NamedTerm, Literal, Named, PresentNamed, OneNamed, TwoNamed, ChoiceNamed}
use Rattle.warp_prog.specs.File.{ProductNamed, CellNamed, TimeNamed, MicrostepNamed}
use Rattle.warp_prog.specs.File.{NamedStatement, SetNamed, PutNamed, ScheduleNamed, ChooseNamed, SetCellNamed, RepeatNamed}
use Rattle.warp_prog.specs.File.{NamedBody, NamedDone, NamedThen}
use Rattle.warp_prog.specs.declared.file.Expression.{Expression, Number, Value, Present, Unary', Binary', If'}
use Rattle.warp_prog.specs.declared.file.Expression.{MultiplyDivide', At', Time, Microstep}
use Rattle.warp_prog.specs.declared.file.Statement.{Statement, fold-Statement}
use Rattle.warp_prog.specs.declared.file.Statement.TheOpen.{Statement-F}
use Rattle.warp_prog.specs.declared.file.ArrayStart.{ArrayStart}
use Rattle.warp_prog.specs.declared.file.ArrayStart.TheVariants.{All, Each}
use Rattle.warp_prog.specs.declared.file.Array.{Array}
use Rattle.warp_prog.specs.declared.file.Beginning.{Beginning}
use Rattle.warp_prog.specs.declared.file.Reaction.{Reaction}
use Rattle.warp_prog.specs.declared.file.Reactor.{Reactor}
use Rattle.warp_prog.specs.declared.file.ProgramFile.{ProgramFile}

-- an expression
abbrev pub term_tree : Expression → NamedTerm
term_tree (Number n) = Literal n
term_tree (Value name) = Named name
term_tree (Present name) = PresentNamed name
term_tree (Unary' op p a) = OneNamed op (term_tree a)
term_tree (Binary' op p a q b) = TwoNamed op (term_tree a) (term_tree b)
term_tree (If' p c q a r b) = ChoiceNamed (term_tree c) (term_tree a) (term_tree b)
term_tree (MultiplyDivide' p a q b r c) = ProductNamed (term_tree a) (term_tree b) (term_tree c)
term_tree (At' name p index) = CellNamed name (term_tree index)
term_tree Time = TimeNamed
term_tree Microstep = MicrostepNamed

-- a list of statements
abbrev pub body_tree : List NamedStatement → NamedBody
body_tree [] = NamedDone
body_tree (s ∷ ss) = NamedThen s (body_tree ss)

-- one statement, with each statement inside already seen as its tree
abbrev pub statement_step : Statement-F NamedStatement → NamedStatement
statement_step (Statement-F.Set name e) = SetNamed name (term_tree e)
statement_step (Statement-F.Put name e) = PutNamed name (term_tree e)
statement_step (Statement-F.Schedule name delay e) = ScheduleNamed name delay (term_tree e)
statement_step (Statement-F.If e first second) = ChooseNamed (term_tree e) (body_tree first.items) (body_tree second.items)
statement_step (Statement-F.SetAt name index e) = SetCellNamed name (term_tree index) (term_tree e)
statement_step (Statement-F.While most e body) = RepeatNamed most (term_tree e) (body_tree body.items)

-- a statement
abbrev pub statement_tree : Statement → NamedStatement
statement_tree = fold-Statement NamedStatement statement_step

-- a reaction
abbrev pub reaction_tree : Reaction → ReactionPart
reaction_tree r = record {
  triggers = r.triggers.items;
  reads = r.reads.items;
  writes = r.writes.items;
  body = body_tree (map statement_tree r.body.items);
}

-- with what cells start, an array, and where a program begins
abbrev pub start_tree : ArrayStart → StartPart
start_tree (All n) = OfAll n
start_tree (Each ns) = OfEach ns.items

abbrev pub array_tree : Array → ArrayPart
array_tree a = record { name = a.name; count = a.count; start = start_tree a.start }

abbrev pub begin_tree : Beginning → BeginPart
begin_tree b = record { pending = b.pending.items; lost = b.lost; since = b.since }

-- a reactor
abbrev pub reactor_tree : Reactor → ReactorPart
reactor_tree r = record {
  name = r.name;
  variables = r.variables.items;
  arrays = map array_tree r.arrays.items;
  inputs = r.inputs.items;
  outputs = r.outputs.items;
  actions = r.actions.items;
  timers = r.timers.items;
  reactions = map reaction_tree r.reactions.items;
  called = r.called.items;
  hidden = r.hidden.items;
}

-- a file
abbrev pub file_tree : ProgramFile → File
file_tree f = record {
  version = f.version;
  stop = f.stop;
  origins = f.origins;
  begin = option_map begin_tree f.begin;
  reactors = map reactor_tree f.reactors.items;
  links = f.links.items;
  inputs = f.inputs.items;
  outputs = f.outputs.items;
}
