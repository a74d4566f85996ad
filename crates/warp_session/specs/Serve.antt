-- What serving keeps of an engine, and what it shows on its board.
use Rattle.std.specs.Prelude.{◌≡◌, ◌⊎◌, Bool, IsTrue, List, length, map, min, take, true}
use Rattle.warp_tag.specs.declared.out.Out.{Out}
use Rattle.warp_table.specs.Records.{set_of}
use Rattle.warp_replica.specs.Answers.{IsReleased}
use Rattle.warp_board.specs.Board.{room_of}
use Rattle.warp_lanes.specs.Engine.{EngineState}
use Rattle.warp_lanes.specs.Lanes.{LaneId}
use Rattle.warp_session.specs.PortDesk.{PortDeskState}

-- the engine has the program, the beginning, the board and the number of lanes that it had
pub record KeepsEngine {T : Type 0} (old new : EngineState T) : Type 0 where
  pub program : new.replica.program ≡ old.replica.program
  pub began : new.began ≡ old.began
  pub board : new.writer.board ≡ old.writer.board
  pub lanes : length new.lanes ≡ length old.lanes

-- the board shows what is released over the log: its rows are the first of that, as many as it has room for; or it is
-- frozen
abbrev pub Shows : {T : Type 0} → EngineState T → Type 0
Shows e =
    (released : List Out) × IsReleased e.replica.program (set_of e.replica.records) released
    × ((e.writer.frozen ≡ true) ⊎ (e.writer.rows ≡ take (min (length released) (room_of e.writer.board)) released))

-- the replica and the board are as they were; or where the replica is settled, the board shows what is released
abbrev pub IsPublished : {T : Type 0} → (T → Bool) → EngineState T → EngineState T → Type 0
IsPublished settled old new =
    ((new.replica ≡ old.replica) × (new.writer ≡ old.writer)) ⊎ (IsTrue (settled new.replica.timeline) → Shows new)

-- what serving makes of an engine
pub record HasServed {T : Type 0} (settled : T → Bool) (old new : EngineState T) : Type 0 where
  pub keeps : KeepsEngine old new
  pub published : IsPublished settled old new

-- which lanes these desks' ports have, each at its place
abbrev pub lanes_of : List PortDeskState → List LaneId
lanes_of desks = map (λ desk. desk.port.lane) desks
