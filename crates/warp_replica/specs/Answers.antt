-- What a program answers over a set of records.
use Rattle.std.specs.Prelude.{◌≡◌, ℕ, ℤ, Bool, IsTrue, ◌↔◌, List}
use Rattle.warp_tag.specs.Moment.{Moment}
use Rattle.warp_tag.specs.Table.{Event}
use Rattle.warp_step.specs.Program.{Program}
use Rattle.warp_step.specs.Snapshot.{Snapshot, start_state}
use Rattle.warp_step.specs.Run.{Row, Run, state_at_end, outputs_of, outputs_until}
use Rattle.warp_tag.specs.declared.out.Out.{Out}
use Rattle.warp_table.specs.Records.{Records, HasSize}
use Rattle.warp_table.specs.Names.{IsLive}
use Rattle.warp_table.specs.Announced.{IsHorizon, IsBroken}
use Rattle.warp_table.specs.Joint.{IsBrokenJointly}

-- the outputs before a horizon
abbrev pub released_of : Moment → List Out → List Out
released_of horizon outputs = outputs_until horizon outputs

-- the state after the last row, all outputs in order, how many records there are, the horizon, the outputs released
-- behind it, for each origin whether it broke an announcement, and whether a joint one is broken
pub record Answers : Type 0 where
  pub state : Snapshot
  pub outputs : List Out
  pub count : ℕ
  pub horizon : Moment
  pub released : List Out
  pub broken : ℕ → Bool
  pub broken_jointly : Bool

-- These are the program's answers over the set: those of its run over the live events of the set, and of its
-- announcements.
pub record AreAnswers (P : Program) (S : Records) (a : Answers) : Type 0 where
  pub events : List Event
  pub live : IsLive S events
  pub trace : List Row
  pub run : Run P events trace
  pub state : a.state ≡ state_at_end (start_state P) trace
  pub outputs : a.outputs ≡ outputs_of trace
  pub count : HasSize S a.count
  pub horizon : IsHorizon P S a.horizon
  pub released : a.released ≡ released_of a.horizon a.outputs
  pub broken : (origin : ℕ) → IsTrue (a.broken origin) ↔ IsBroken S origin
  pub broken_jointly : IsTrue a.broken_jointly ↔ IsBrokenJointly S

-- this list is what the program releases over the set
abbrev pub IsReleased : Program → Records → List Out → Type 0
IsReleased P S outputs = (a : Answers) × AreAnswers P S a × (outputs ≡ a.released)

-- these are the values of the program's variables over the set
abbrev pub AreVariables : Program → Records → List ℤ → Type 0
AreVariables P S values = (a : Answers) × AreAnswers P S a × (values ≡ a.state.vars)
