-- What a `Warp` stands for.
use Rattle.std.specs.Prelude.{◌≡◌, ℕ, ◌<◌, ◌≤◌, ◌++◌, IsTrue, List, [], ◌∷◌, length, filter, Option, Some, unwrap_or}
use Rattle.std.specs.Prelude.{vec_capacity, if◌then◌else◌}
use Rattle.std.specs.List.{list_all}
use Rattle.warp_tag.specs.Moment.{Moment}
use Rattle.warp_tag.specs.Table.{IsTable, fresh, known, changed, live}
use Rattle.warp_tag.specs.declared.entry.Entry.{Entry}
use Rattle.warp_step.specs.Program.{Program}
use Rattle.warp_step.specs.Run.{Row, is_after}
use Rattle.warp_step.specs.Valid.{is_valid}
use Rattle.warp_step.specs.Events.{event_fits}
use Rattle.warp_arena.specs.Places.{Reaches, entries_of, entry_of, with_change}
use Rattle.warp_line.specs.Timeline.{Standing, IsDone}
use Rattle.warp_run.specs.Skips.{AreFree}
use Rattle.warp_run.specs.Tip.{HasExecuted}
use Rattle.warp_run.specs.Walk.{AreThrough, ahead}
use Rattle.warp_run.specs.declared.warp.Warp.{Warp}

-- the last tag through which names were let go of
abbrev pub floor_of : Warp → Option Moment
floor_of w = w.tip.floor

-- the entries that are not behind a floor
abbrev pub ahead_of : Option Moment → List Entry → List Entry
ahead_of floor entries = filter (λ e. is_after floor e.tag) entries

-- The program is valid, and the arena has its origins; the table is sorted, with events that the program takes, and the
-- arena holds what is not behind; what is executed are the done rows; the cursor is at the first place after the last
-- of them; no live event is after the latest tag, or at the tag of a stretch; and where it is settled, all rows are done.
pub record StandsFor (w : Warp) (m : Standing) : Type 0 where
  pub program : IsTrue (is_valid m.program)
  pub origins : w.arena.origins ≡ m.program.origins
  pub table : entries_of w.arena.places ≡ ahead_of w.tip.floor m.table
  pub ordered : IsTable m.table
  pub events : IsTrue (list_all (event_fits m.program) (live m.table))
  pub tip : HasExecuted m.program (live m.table) w.tip m.done
  pub cursor : Reaches w.arena.places (ahead w.tip.last w.arena.places) w.cursor
  pub latest : AreThrough w.latest (live m.table)
  pub settled : IsTrue w.settled → IsDone m
  pub skips : AreFree w.skips (live m.table)

-- from what a timeline of this program stands for, at least so many more rows are done
abbrev pub Goes : Program → Warp → Warp → ℕ → Type 0
Goes P old new count =
    (m : Standing) → StandsFor old m → m.program ≡ P
    → (rows : List Row) × StandsFor new (record m { done = m.done ++ rows }) × (count ≤ length rows)

-- The handle names what the table knows of a name, where nothing is known the name that came in; a change there is the
-- table's change of the name, and the cursor stays at the first place after the last row.
pub record NamesAt (old new : Warp) (origin : ℕ) (tag : Moment) (node : ℕ) : Type 0 where
  pub others : new ≡ record old { arena = new.arena; cursor = new.cursor }
  pub origins : new.arena.origins ≡ old.arena.origins
  pub entry : entry_of node new.arena.places
      ≡ Some (unwrap_or (known origin tag (entries_of old.arena.places)) (fresh origin tag))
  pub change : (f : Entry → Entry) → entries_of (with_change f node new.arena.places)
      ≡ changed f origin tag (entries_of old.arena.places)
  pub cursor : Reaches new.arena.places (ahead new.tip.last new.arena.places) new.cursor

-- What is known of a name changed from this entry: the arena's table has the change, and the cursor stays at the first
-- place after the last row.
pub record ChangedFrom (was : Entry) (change : Entry → Entry) (old new : Warp) (origin : ℕ) (tag : Moment) : Type 0 where
  pub others : new ≡ record old { arena = new.arena; cursor = new.cursor }
  pub origins : new.arena.origins ≡ old.arena.origins
  pub before : unwrap_or (known origin tag (entries_of old.arena.places)) (fresh origin tag) ≡ was
  pub table : entries_of new.arena.places ≡ changed change origin tag (entries_of old.arena.places)
  pub cursor : Reaches new.arena.places (ahead new.tip.last new.arena.places) new.cursor

-- a tag after which no event is, with one more tag
abbrev pub latest_with : Moment → Option Moment → Option Moment
latest_with tag latest = if is_after latest tag then Some tag else latest

-- the room of some lists: the arena's nodes and hints, those of what is executed and of what is aside, and what is given
-- to a step; not that of the arena's origins, of a state's variables, or of the scratch
abbrev pub room_in : Warp → List ℕ
room_in w =
    w.arena.room.nodes ∷ w.arena.room.hints ∷ w.arena.room.own_hints
    ∷ w.tip.history.room.marks ∷ w.tip.history.room.entries
    ∷ w.tip.history.room.values.values ∷ w.tip.history.room.values.cells ∷ w.tip.history.room.values.steps
    ∷ vec_capacity w.tip.outputs
    ∷ w.tip.aside.history.room.marks ∷ w.tip.aside.history.room.entries
    ∷ w.tip.aside.history.room.values.values ∷ w.tip.aside.history.room.values.cells
    ∷ w.tip.aside.history.room.values.steps
    ∷ w.tip.aside.room
    ∷ vec_capacity w.given ∷ []

-- a node is free
abbrev pub HasRoom : Warp → Type 0
HasRoom w = 0 < w.arena.free
