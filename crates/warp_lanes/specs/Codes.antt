-- How an engine is stored.
use Rattle.std.specs.Prelude.{ℕ, List, refl}
use Rattle.std.specs.Coded.{Coded, code_by, coded×, coded_ℕ, coded_list}
use Rattle.warp_replica.specs.Replica.{ReplicaState, replica_code}
use Rattle.warp_board.specs.Board.{WriterState}
use Rattle.warp_board.specs.contracts.writer.Writer as writer
use Rattle.warp_lanes.specs.contracts.executor_end.Lane as lane
use Rattle.warp_lanes.specs.Lanes.{LaneState}
use Rattle.warp_lanes.specs.Engine.{EngineState}

-- an engine is stored as its four parts
abbrev pub engine_code : {T : Type 0} → Coded T → Coded (EngineState T)
engine_code {T} timeline =
    code_by (ReplicaState T × (List LaneState × (WriterState × ℕ)))
    (coded× (replica_code timeline) (coded× (coded_list lane.the_row.coded) (coded× writer.the_row.coded coded_ℕ)))
    (λ e. (e.replica, (e.lanes, (e.writer, e.began))))
    (λ p. record { replica = p.0; lanes = p.1.0; writer = p.1.1.0; began = p.1.1.1 })
    (λ _. refl)
