-- Checkpoints: what they hold, and how they stand in lists that they share.
use Rattle.std.specs.Prelude.{◌≡◌, ℕ, ℤ, ◌+◌, ◌<◌, ◌≤◌, IsTrue, true, List, [], ◌∷◌, length, take, drop, Option, Some}
use Rattle.std.specs.Prelude.{None, if◌then◌else◌}
use Rattle.std.specs.List.{AllByRecursion, list_all}
use Rattle.warp_tag.specs.Limits.{most_pending}
use Rattle.warp_tag.specs.Moment.{Moment}
use Rattle.warp_step.specs.Program.{Program}
use Rattle.warp_step.specs.Snapshot.{Snapshot, AreInOrder, IsStateOf}
use Rattle.warp_step.specs.Run.{is_after}
use Rattle.warp_step.specs.declared.pending.Waiting.{Waiting}
use Rattle.warp_run.specs.Stack.{IsRoomLike, StackRoom, no_values}
use Rattle.warp_run.specs.declared.history.Done.{Done}
use Rattle.warp_run.specs.declared.history.Mark.{Mark}

-- a checkpoint: how far the run was, and its state there
pub record Saved : Type 0 where
  pub done : Done
  pub state : Snapshot

-- for how many checkpoints, what of the values of their variables, and how many pending entries memory was taken
pub record Room : Type 0 where
  pub marks : ℕ
  pub values : StackRoom
  pub entries : ℕ

-- of how many variables each has values, the checkpoints, the newest first, the room for them, and how many values one more
-- may have
pub record Saves : Type 0 where
  pub width : ℕ
  pub saves : List Saved
  pub room : Room
  pub free : ℕ

-- no checkpoint, and no room
abbrev pub no_saves : ℕ → Saves
no_saves width = record {
  width = width;
  saves = [];
  room = record { marks = 0; values = (no_values width).room; entries = 0 };
  free = 0;
}

-- how many entries are pending in all of these
abbrev pub entries_in : List Saved → ℕ
entries_in [] = 0
entries_in (c ∷ cs) = length c.state.pending + entries_in cs

-- there is room for one more checkpoint, of this state: for its values and its entries
pub record HasRoomFor (h : Saves) (s : Snapshot) : Type 0 where
  pub marks : length h.saves < h.room.marks
  pub values : length s.vars ≤ h.free
  pub entries : entries_in h.saves + length s.pending ≤ h.room.entries

-- there is as much room, or more
pub record IsAtLeast (least room : Room) : Type 0 where
  pub marks : least.marks ≤ room.marks
  pub values : IsRoomLike least.values room.values
  pub entries : least.entries ≤ room.entries

-- after how many rows at most a checkpoint stands
abbrev pub spacing : ℕ
spacing = 16

-- a step can be made from the state: it is of this program, and all that is pending is after the last row
pub record IsReady (P : Program) (last : Option Moment) (s : Snapshot) : Type 0 where
  pub of_program : IsStateOf P s
  pub later : IsTrue (list_all (λ w. is_after last w.tag) s.pending)

-- how many rows may be done with these checkpoints, the newest first: sixteen more than at the newest, and those of the
-- base where there is none
abbrev pub reach : ℕ → List Saved → ℕ
reach base [] = base
reach base (c ∷ cs) = c.done.rows + spacing

-- the checkpoint of a state that is reached
abbrev pub saved_at : Done → Snapshot → Saved
saved_at done state = record { done = done; state = state }

-- how far the newest is
abbrev pub newest : List Saved → Option Done
newest [] = None
newest (c ∷ cs) = Some c.done

-- the newest is of this state
abbrev pub IsOfState : List Saved → Snapshot → Type 0
IsOfState [] s = ⊥
IsOfState (c ∷ cs) s = s ≡ c.state

-- from the newest on that is before the tag
abbrev pub before : Moment → List Saved → List Saved
before tag [] = []
before tag (c ∷ cs) = if is_after c.done.last tag then c ∷ cs else before tag cs

-- each that is older than one before the tag is before it too
abbrev pub ArePartedBy : Moment → List Saved → Type 0
ArePartedBy tag [] = Unit {0}
ArePartedBy tag (c ∷ cs) =
    (is_after c.done.last tag ≡ true → AllByRecursion (λ d. is_after d.done.last tag ≡ true) cs) × ArePartedBy tag cs

-- from the newest down to the newest that is before the tag, and all where none is
abbrev pub down_to : Moment → List Saved → List Saved
down_to tag [] = []
down_to tag (c ∷ cs) = if is_after c.done.last tag then c ∷ [] else c ∷ down_to tag cs

-- these checkpoints, and in front of them those of the marks, the last first: each takes its values and entries off the
-- front of what is left
abbrev pub saves_of : ℕ → List Saved → List Mark → List ℤ → List Waiting → List Saved
saves_of width saves [] values entries = saves
saves_of width saves (m ∷ ms) values entries =
    saves_of width
    (saved_at m.done (record { vars = take width values; pending = take m.pending entries; lost = m.lost }) ∷ saves)
    ms (drop width values) (drop m.pending entries)

-- the lists hold just what the marks say, and each checkpoint's entries may be pending
abbrev pub AreKept : ℕ → List Mark → List ℤ → List Waiting → Type 0
AreKept width [] values entries = (values ≡ []) × (entries ≡ [])
AreKept width (m ∷ ms) values entries =
    (width ≤ length values) × (m.pending ≤ length entries) × (m.pending ≤ most_pending)
    × AreInOrder (take m.pending entries) × AreKept width ms (drop width values) (drop m.pending entries)
