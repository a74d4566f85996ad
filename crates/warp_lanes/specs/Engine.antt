-- An engine, and what a turn, a visit and draining a lane do.
use Rattle.std.specs.Prelude.{◌≡◌, ℕ, ◌<◌, ◌≤◌, Bool, true, false, List, [], ◌∷◌, ◌++◌, length, map, slice_get, Some}
use Rattle.std.specs.List.{AllByRecursion}
use Rattle.std.proofs.Math.ListN.{set}
use Rattle.warp_step.specs.Program.{Program}
use Rattle.warp_record.specs.declared.line.Line.{Line}
use Rattle.warp_record.specs.declared.record.Record.{Record}
use Rattle.warp_replica.specs.Answered.{EndsBatch, TimelineFacts}
pub use Rattle.warp_replica.specs.Answered.{AnswersLine, AreAnswered}
use Rattle.warp_replica.specs.Replica.{ReplicaState}
use Rattle.warp_replica.specs.Settling.{SettlesNew}
use Rattle.warp_board.specs.Board.{WriterState}
use Rattle.warp_replica.specs.declared.answer.Answer.{Answer}
use Rattle.warp_lanes.specs.declared.turn.Turn.{Turn}
use Rattle.warp_lanes.specs.declared.turn.Turn.TheVariants.{Served, Empty, Stalled}
use Rattle.warp_lanes.specs.Lanes.{LaneId, LaneState, PortEndState, places}
use Rattle.warp_lanes.specs.Publish.{PublishesEach}

-- how many lanes an engine may serve
abbrev pub most_lanes : ℕ
most_lanes = 16

-- the replica, the lanes, the board's writer, and the length that the log had when the engine was made
pub record EngineState (T : Type 0) : Type 0 where
  pub replica : ReplicaState T
  pub lanes : List LaneState
  pub writer : WriterState
  pub began : ℕ

-- the lane received nothing yet, and sent nothing
abbrev pub IsFresh : LaneState → Type 0
IsFresh lane = (lane.commands ≡ []) × (lane.answers ≡ [])

-- each of the lanes is so
abbrev pub AreFresh : List LaneState → Type 0
AreFresh lanes = AllByRecursion IsFresh lanes

-- which lanes these are, each at its place
abbrev pub ids_of : List LaneState → List LaneId
ids_of lanes = map (λ lane. lane.lane) lanes

-- the lane of this number sent fewer answers than its ring has places for, so that none can lack one
abbrev pub HasPlace : List LaneState → ℕ → Type 0
HasPlace lanes number =
    (lane : LaneState) × (slice_get lanes number ≡ Some lane) × (length lane.answers < places)

-- the replica answered a line alone: nothing waits behind a new record
pub record AnswersAlone {T : Type 0} (facts : TimelineFacts T) (r : ReplicaState T) (said : Line) (answer : Answer)
    (r' : ReplicaState T) : Type 0 where
  pub answers : AnswersLine facts r said answer r'
  pub settled : SettlesNew said answer.reply (facts.settled r'.timeline) (facts.refused r'.timeline)

-- a lane received a command and sent its answer
abbrev pub Serves : {T : Type 0} → TimelineFacts T → ReplicaState T → LaneState → Line → Answer
    → ReplicaState T → LaneState → Type 0
Serves facts r lane said answer r' lane' =
    AnswersAlone facts r said answer r'
    × (lane' ≡ record lane { commands = lane.commands ++ said ∷ []; answers = lane.answers ++ answer ∷ []; free = lane'.free })

-- What a turn at a lane does to the replica and the lane. A place for an answer is looked for first: where none is found it is
-- stalled, also where no command is there.
abbrev pub TurnsLane : {T : Type 0} → TimelineFacts T → ReplicaState T → LaneState → Turn
    → ReplicaState T → LaneState → Type 0
TurnsLane facts r lane Served r' lane' =
    (said : Line) × (answer : Answer) × Serves facts r lane said answer r' lane'
TurnsLane facts r lane Empty r' lane' = (r' ≡ r) × (lane' ≡ record lane { free = lane'.free }) × (0 < lane'.free)
TurnsLane facts r lane Stalled r' lane' = (r' ≡ r) × (lane' ≡ lane) × (lane.free ≡ 0)

-- what a turn at the lane of this number, from 0, does to the engine
abbrev pub Turns : {T : Type 0} → TimelineFacts T → EngineState T → ℕ → Turn → EngineState T → Type 0
Turns facts e number turn e' =
    (lane lane' : LaneState) × (slice_get e.lanes number ≡ Some lane)
    × TurnsLane facts e.replica lane turn e'.replica lane'
    × (e'.lanes ≡ set e.lanes number lane') × (e'.writer ≡ e.writer) × (e'.began ≡ e.began)

-- What a visit leaves of the writer of the board, by whether it leaves the replica settled: what publishing behind each answer, one after
-- another, leaves, or all as it was.
abbrev pub PublishesIf : Bool → Program → List Record → List Answer → WriterState → WriterState → Type 0
PublishesIf true P log made w w' = PublishesEach P log made w w'
PublishesIf false P log made w w' = w' ≡ w

-- A visit served lines of a lane, at least one and at most as many as it has places. The replica was given them one
-- after another, and what waited then was executed; where that left it settled, its board is as publishing behind each
-- of the lines leaves it; and the answers stand behind those that the lane sent.
pub record ServesAll {T : Type 0} (facts : TimelineFacts T) (r : ReplicaState T) (lane : LaneState) (w : WriterState)
    (lines : List Line) (made : List Answer) (between r' : ReplicaState T) (lane' : LaneState) (w' : WriterState) : Type 0
  where
    pub some : 0 < length lines
    pub most : length lines ≤ places
    pub answered : AreAnswered (AnswersLine facts) r lines made between
    pub ends : EndsBatch facts between r'
    pub sent : lane' ≡ record lane { commands = lane.commands ++ lines; answers = lane.answers ++ made; free = lane'.free }
    pub published : PublishesIf (facts.settled r'.timeline) r'.program r'.records made w w'

-- What a visit of a lane does to the replica, the lane and the writer of the board. A place for an answer is looked for
-- first, as in a turn.
abbrev pub VisitsLane : {T : Type 0} → TimelineFacts T → ReplicaState T → LaneState → WriterState → Turn
    → ReplicaState T → LaneState → WriterState → Type 0
VisitsLane {T} facts r lane w Served r' lane' w' =
    (lines : List Line) × (made : List Answer) × (between : ReplicaState T)
    × ServesAll facts r lane w lines made between r' lane' w'
VisitsLane facts r lane w Empty r' lane' w' = TurnsLane facts r lane Empty r' lane' × (w' ≡ w)
VisitsLane facts r lane w Stalled r' lane' w' = TurnsLane facts r lane Stalled r' lane' × (w' ≡ w)

-- what a visit of the lane of this number, from 0, does to the engine
abbrev pub Visits : {T : Type 0} → TimelineFacts T → EngineState T → ℕ → Turn → EngineState T → Type 0
Visits facts e number turn e' =
    (lane lane' : LaneState) × (slice_get e.lanes number ≡ Some lane)
    × VisitsLane facts e.replica lane e.writer turn e'.replica lane' e'.writer
    × (e'.lanes ≡ set e.lanes number lane') × (e'.began ≡ e.began)

-- What draining a lane with its port's end does. The replica was given the lines that were not received, and their
-- answers stand behind those that the lane sent. So the lane received all that its port sent, and what the port
-- fetched, followed by what is handed out, is all that the lane sent. No answer that was made has less than the length
-- that was found.
abbrev pub DrainsLane : {T : Type 0} → TimelineFacts T → ReplicaState T → LaneState → PortEndState → List Answer
    → ReplicaState T → LaneState → Type 0
DrainsLane facts r lane end handed r' lane' =
    (lines : List Line) × (made : List Answer) × AreAnswered (AnswersAlone facts) r lines made r'
    × (lane' ≡ record lane { commands = lane.commands ++ lines; answers = lane.answers ++ made; free = lane'.free })
    × (lane'.commands ≡ end.sent) × (lane'.answers ≡ end.fetched ++ handed)
    × AllByRecursion (λ (answer : Answer). length r.records ≤ answer.len) made

-- what draining the lane of this number does to the engine
abbrev pub Drains : {T : Type 0} → TimelineFacts T → EngineState T → ℕ → PortEndState → List Answer → EngineState T
    → Type 0
Drains facts e number end handed e' =
    (lane lane' : LaneState) × (slice_get e.lanes number ≡ Some lane)
    × DrainsLane facts e.replica lane end handed e'.replica lane'
    × (e'.lanes ≡ set e.lanes number lane') × (e'.writer ≡ e.writer) × (e'.began ≡ e.began)
