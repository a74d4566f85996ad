-- What a rollback set aside: checkpoints that may be reached again.
use Rattle.std.specs.Prelude.{◌≡◌, ℕ, ◌+◌, ◌-◌, ◌≤◌, false, List, [], ◌∷◌, length, take, drop, if◌then◌else◌, Option}
use Rattle.std.specs.Prelude.{IfSome}
use Rattle.warp_tag.specs.Moment.{Moment}
use Rattle.warp_tag.specs.Table.{Event}
use Rattle.warp_step.specs.Program.{Program}
use Rattle.warp_step.specs.Snapshot.{Snapshot}
use Rattle.warp_step.specs.Run.{Row, is_after, state_at_end, outputs_of}
use Rattle.warp_tag.specs.declared.out.Out.{Out}
use Rattle.warp_line.specs.Begin.{BeginFrom, last_after}
use Rattle.warp_run.specs.History.{IsReady, Saved, Saves, newest, spacing}

-- the checkpoints, the earliest first, how many outputs were before those that are kept, those, and for how many memory
-- was taken
pub record SetAside : Type 0 where
  pub history : Saves
  pub first : ℕ
  pub outputs : List Out
  pub room : ℕ

-- the same is aside, whatever room there is
abbrev pub IsSameAside : SetAside → SetAside → Type 0
IsSameAside x y =
    y ≡ record x { history = record x.history { room = y.history.room; free = y.history.free }; room = y.room }

-- the outputs behind so many up to so many, of those behind the first so many
abbrev pub outputs_between : ℕ → List Out → ℕ → ℕ → List Out
outputs_between first outputs from to = take (to - first - (from - first)) (drop (from - first) outputs)

-- from one checkpoint to another: at most sixteen rows, which the run makes from the state of the one on, and which end
-- in that of the other; their outputs are among these, behind the first so many
pub record Leads (P : Program) (E : List Event) (first : ℕ) (outputs : List Out) (c d : Saved) : Type 0 where
  pub rows : List Row
  pub begin : BeginFrom P E c.done.last c.state rows
  pub last : d.done.last ≡ last_after c.done.last rows
  pub state : d.state ≡ state_at_end c.state rows
  pub count : d.done.rows ≡ c.done.rows + length rows
  pub few : length rows ≤ spacing
  pub start : first ≤ c.done.outputs
  pub order : c.done.outputs ≤ d.done.outputs
  pub within : d.done.outputs ≤ first + length outputs
  pub gives : outputs_of rows ≡ outputs_between first outputs c.done.outputs d.done.outputs

-- it leads to the first of these, if there is one
abbrev pub LeadsOn : Program → List Event → ℕ → List Out → Saved → List Saved → Type 0
LeadsOn P E first outputs c [] = Unit {0}
LeadsOn P E first outputs c (d ∷ ds) = Leads P E first outputs c d

-- of each a step can be made, and each leads to the next
abbrev pub AreAside : Program → List Event → ℕ → List Out → List Saved → Type 0
AreAside P E first outputs [] = Unit {0}
AreAside P E first outputs (c ∷ cs) =
    IsReady P c.done.last c.state × LeadsOn P E first outputs c cs × AreAside P E first outputs cs

-- the earliest is not before the tag
abbrev pub IsFrom : Moment → List Saved → Type 0
IsFrom tag saves = IfSome (newest saves) (λ done. is_after done.last tag ≡ false)

-- without those that are before the tag
abbrev pub since : Moment → List Saved → List Saved
since tag [] = []
since tag (c ∷ cs) = if is_after c.done.last tag then since tag cs else c ∷ cs

-- in front of these, those that are not before the tag, of checkpoints of which the newest is first
abbrev pub set_aside : Moment → List Saved → List Saved → List Saved
set_aside tag [] aside = aside
set_aside tag (c ∷ cs) aside = if is_after c.done.last tag then aside else set_aside tag cs (c ∷ aside)

-- the run is at the earliest checkpoint, in its state
pub record IsMet (t : Option Moment) (s : Snapshot) (saves : List Saved) : Type 0 where
  pub earliest : Saved
  pub others : List Saved
  pub aside : saves ≡ earliest ∷ others
  pub last : t ≡ earliest.done.last
  pub state : s ≡ earliest.state

-- these checkpoints are aside, with the outputs behind those that were before the earliest, of all these
pub record KeepsFrom (taken : List Saved) (all : List Out) (a : SetAside) : Type 0 where
  pub saves : a.history.saves ≡ taken
  pub first : IfSome (newest taken) (λ done. a.first ≡ done.outputs)
  pub outputs : a.outputs ≡ drop a.first all
