-- The tables of a program file: which values each key of each object may have, and the tree that they make.
use Rattle.std.specs.Prelude.{ℕ, ℤ, pos, Bool, true, false, not, ◌&&◌, ◌||◌, List, [], ◌∷◌, Option, Some, None, option_map, codes, if◌then◌else◌}
use Rattle.std.specs.Ordering.{int_eq}
use Rattle.std.specs.Option.{option_or}
use Rattle.serde_json.specs.Data.{Data, array, Items, no_items, item}
use Rattle.serde_json.specs.Find.{as_str, get}
use Rattle.warp_prog.specs.Chain.{◌>>=◌}
use Rattle.warp_prog.specs.File.{NamedBody, NamedDone, File, ReactorPart, ReactionPart, ArrayPart, StartPart, OfAll, OfEach, BeginPart}
use Rattle.warp_prog.specs.Later.{any_uses_later}
use Rattle.warp_prog.specs.Json.{pair_of, triple_of, four_of, has_only, with_keys, items_at, each, list_at, unless_empty}
use Rattle.warp_prog.specs.Version.{last_version}
use Rattle.warp_prog.specs.Word.{name_at, name_or_none, port_at, printed_at, integer_at}
use Rattle.warp_prog.specs.Statements.{body_of}
use Rattle.warp_prog.specs.declared.file.VariablePart.{VariablePart}
use Rattle.warp_prog.specs.declared.file.CalledPart.{CalledPart}
use Rattle.warp_prog.specs.declared.file.PendingPart.{PendingPart}
use Rattle.warp_prog.specs.declared.file.ActionPart.{ActionPart}
use Rattle.warp_prog.specs.declared.file.TimerPart.{TimerPart}
use Rattle.warp_prog.specs.declared.file.LinkPart.{LinkPart}
use Rattle.warp_prog.specs.declared.file.InputPart.{InputPart}

-- a variable: [name, start]
abbrev pub variable_of : Data → Option VariablePart
variable_of d = do
  (x, y) ← pair_of d
  name ← name_at x
  start ← integer_at y
  Some (record { name = name; start = start })

-- with what the cells of an array start: a number for all, or a list of numbers for the first ones
abbrev pub start_of : Data → Option StartPart
start_of (array ds) = option_map OfEach (each integer_at ds)
start_of d = option_map OfAll (integer_at d)

-- an array: [name, count, start]
abbrev pub array_of : Data → Option ArrayPart
array_of d = do
  (x, y, z) ← triple_of d
  name ← name_at x
  count ← integer_at y
  start ← start_of z
  Some (record { name = name; count = count; start = start })

-- how people call a thing of a reactor, or with an empty name the reactor itself: [name, text]
abbrev pub called_of : Data → Option CalledPart
called_of d = do
  (x, y) ← pair_of d
  name ← as_str x >>= name_or_none
  text ← printed_at y
  Some (record { name = name; text = text })

-- what is pending where a program begins: [time, microstep, target, value]
abbrev pub pending_of : Data → Option PendingPart
pending_of d = do
  (x, y, z, w) ← four_of d
  time ← integer_at x
  microstep ← integer_at y
  target ← port_at z
  value ← integer_at w
  Some (record { time = time; microstep = microstep; target = target; value = value })

-- a number that may be there; 0 where it is not
abbrev pub integer_or_0 : Option Data → Option ℤ
integer_or_0 None = Some (pos 0)
integer_or_0 (Some d) = integer_at d

-- the keys of a beginning
abbrev pub begin_keys : List (List ℕ)
begin_keys = codes "pending" ∷ codes "lost" ∷ codes "since" ∷ []

-- a beginning: `pending`, `lost`, `since`
unfoldable pub begin_of : Data → Option BeginPart
begin_of v = do
  d ← with_keys begin_keys v
  pending ← list_at pending_of (codes "pending") d
  lost ← integer_or_0 (get (codes "lost") d)
  since ← integer_or_0 (get (codes "since") d)
  Some (record { pending = pending; lost = lost; since = since })

-- the beginning under its key; none where the key is not there
abbrev pub begin_or_none : Option Data → Option (Option BeginPart)
begin_or_none None = Some None
begin_or_none (Some d) = option_map Some (begin_of d)

-- an action: [name, delay]
abbrev pub action_of : Data → Option ActionPart
action_of d = do
  (x, y) ← pair_of d
  name ← name_at x
  delay ← integer_at y
  Some (record { name = name; delay = delay })

-- a timer: [name, offset, period]
abbrev pub timer_of : Data → Option TimerPart
timer_of d = do
  (x, y, z) ← triple_of d
  name ← name_at x
  offset ← integer_at y
  period ← integer_at z
  Some (record { name = name; offset = offset; period = period })

-- a link with no delay: [from, to]
abbrev pub plain_link_of : Data → Option LinkPart
plain_link_of d = do
  (x, y) ← pair_of d
  source ← port_at x
  target ← port_at y
  Some (record { source = source; target = target; delay = None })

-- a link with a delay: [from, to, delay]
abbrev pub delayed_link_of : Data → Option LinkPart
delayed_link_of d = do
  (x, y, z) ← triple_of d
  source ← port_at x
  target ← port_at y
  delay ← integer_at z
  Some (record { source = source; target = target; delay = Some delay })

-- a link of either kind
abbrev pub link_of : Data → Option LinkPart
link_of d = option_or (plain_link_of d) (delayed_link_of d)

-- a program input: [origin, to]
abbrev pub input_of : Data → Option InputPart
input_of d = do
  (x, y) ← pair_of d
  origin ← integer_at x
  port ← port_at y
  Some (record { origin = origin; port = port })

-- a body under a key; empty where the key is not there
abbrev pub body_or_none : Option Data → Option NamedBody
body_or_none None = Some NamedDone
body_or_none (Some d) = body_of d

-- the keys of a reaction
abbrev pub reaction_keys : List (List ℕ)
reaction_keys = codes "on" ∷ codes "reads" ∷ codes "writes" ∷ codes "body" ∷ []

-- a reaction: `on`, which is there and not empty; `reads`, `writes`, `body`
unfoldable pub reaction_of : Data → Option ReactionPart
reaction_of v = do
  d ← with_keys reaction_keys v
  triggers ← list_at name_at (codes "on") d >>= unless_empty
  reads ← list_at name_at (codes "reads") d
  writes ← list_at name_at (codes "writes") d
  body ← body_or_none (get (codes "body") d)
  Some (record { triggers = triggers; reads = reads; writes = writes; body = body })

-- the keys that a reactor of any version may have, and those of a reactor
abbrev pub first_reactor_keys : List (List ℕ)
first_reactor_keys =
    codes "name" ∷ codes "vars" ∷ codes "inputs" ∷ codes "outputs" ∷ codes "actions" ∷ codes "timers" ∷ codes "reactions" ∷ []

abbrev pub reactor_keys : List (List ℕ)
reactor_keys =
    codes "name" ∷ codes "vars" ∷ codes "arrays" ∷ codes "inputs" ∷ codes "outputs" ∷ codes "actions" ∷ codes "timers"
    ∷ codes "reactions" ∷ codes "called" ∷ codes "hidden" ∷ []

-- a reactor: `name`, which is there; `vars`, `arrays`, `inputs`, `outputs`, `actions`, `timers`, `reactions`, `called`, `hidden`
unfoldable pub reactor_of : Data → Option ReactorPart
reactor_of v = do
  d ← with_keys reactor_keys v
  name ← get (codes "name") d >>= name_at
  variables ← list_at variable_of (codes "vars") d
  arrays ← list_at array_of (codes "arrays") d
  inputs ← list_at name_at (codes "inputs") d
  outputs ← list_at name_at (codes "outputs") d
  actions ← list_at action_of (codes "actions") d
  timers ← list_at timer_of (codes "timers") d
  reactions ← list_at reaction_of (codes "reactions") d
  called ← list_at called_of (codes "called") d
  hidden ← list_at name_at (codes "hidden") d
  Some (record {
    name = name;
    variables = variables;
    arrays = arrays;
    inputs = inputs;
    outputs = outputs;
    actions = actions;
    timers = timers;
    reactions = reactions;
    called = called;
    hidden = hidden;
  })

-- the keys that the top object of any version may have, and those of the top object
abbrev pub first_file_keys : List (List ℕ)
first_file_keys =
    codes "version" ∷ codes "stop" ∷ codes "origins" ∷ codes "reactors" ∷ codes "links" ∷ codes "inputs" ∷ codes "outputs" ∷ []

abbrev pub file_keys : List (List ℕ)
file_keys =
    codes "version" ∷ codes "stop" ∷ codes "origins" ∷ codes "begin" ∷ codes "reactors" ∷ codes "links" ∷ codes "inputs"
    ∷ codes "outputs" ∷ []

-- reactors of which none has a key that came with version 4
abbrev pub have_first_keys : Items → Bool
have_first_keys no_items = true
have_first_keys (item d ds) = has_only first_reactor_keys d && have_first_keys ds

-- reactors under their key, of which none has such a key
abbrev pub reactors_have_first_keys : Option Items → Bool
reactors_have_first_keys None = false
reactors_have_first_keys (Some ds) = have_first_keys ds

-- a value with a key that came with version 4, or whose reactors are these and use a word that did
abbrev pub has_later : Data → List ReactorPart → Bool
has_later d rs =
    not (has_only first_file_keys d) || (not (reactors_have_first_keys (items_at (codes "reactors") d)) || any_uses_later rs)

-- this file, but that what came with version 4 stands in files of that version alone
abbrev pub of_its_version : Data → File → Option File
of_its_version d f = if not (int_eq f.version (pos last_version)) && has_later d f.reactors then None else Some f

-- a file: `version`, `stop`, `origins` and `reactors`, which are there, the last not empty; `begin`, `links`, `inputs`, `outputs`
unfoldable pub file_of : Data → Option File
file_of v = do
  d ← with_keys file_keys v
  version ← get (codes "version") d >>= integer_at
  stop ← get (codes "stop") d >>= integer_at
  origins ← get (codes "origins") d >>= integer_at
  begin ← begin_or_none (get (codes "begin") d)
  reactors ← list_at reactor_of (codes "reactors") d >>= unless_empty
  links ← list_at link_of (codes "links") d
  inputs ← list_at input_of (codes "inputs") d
  outputs ← list_at port_at (codes "outputs") d
  of_its_version d (record {
    version = version;
    stop = stop;
    origins = origins;
    begin = begin;
    reactors = reactors;
    links = links;
    inputs = inputs;
    outputs = outputs;
  })
