-- What the two ends of a lane have sent and received.
use Rattle.std.specs.Prelude.{◌≡◌, ◌⊎◌, ℕ, ◌+◌, List, length, map, refl}
use Rattle.std.specs.Coded.{Coded, code_by, coded×, coded_ℕ}
use denote.RawPtr.{Ptr, coded_ptr}
use Rattle.warp_record.specs.declared.line.Line.{Line}
pub use Rattle.warp_replica.specs.Answered.{IsAnswer}
use Rattle.warp_replica.specs.History.{Subhistory}
use Rattle.warp_replica.specs.declared.answer.Answer.{Answer}

-- how many commands, and how many answers, a lane has places for
abbrev pub places : ℕ
places = 64

-- how many answers of a port may be missing: as many as both rings have places for
abbrev pub most_missing : ℕ
most_missing = 128

-- which ring it is
pub record RingId : Type 0 where
  pub words : Ptr
  pub slots : Ptr
  pub names : ℕ × (ℕ × ℕ)

-- which lane it is: the ring of its commands, and that of its answers
abbrev pub LaneId : Type 0
LaneId = RingId × RingId

-- how the two are stored
abbrev pub ring_id_code : Coded RingId
ring_id_code =
    code_by (Ptr × (Ptr × (ℕ × (ℕ × ℕ)))) (coded× coded_ptr (coded× coded_ptr (coded× coded_ℕ (coded× coded_ℕ coded_ℕ))))
    (λ r. (r.words, (r.slots, r.names)))
    (λ p. record { words = p.0; slots = p.1.0; names = p.1.1 })
    (λ _. refl)

abbrev pub lane_id_code : Coded LaneId
lane_id_code = coded× ring_id_code ring_id_code

-- the lane of a port, the lines that it sent, and the answers that it fetched, each in order; and how many places for
-- commands it knows to be free
pub record PortState : Type 0 where
  pub lane : LaneId
  pub sent : List Line
  pub fetched : List Answer
  pub free : ℕ

-- a port that has ended: nothing more is sent, so no place counts
pub record PortEndState : Type 0 where
  pub lane : LaneId
  pub sent : List Line
  pub fetched : List Answer

-- the end of a port
abbrev pub end_of_port : PortState → PortEndState
end_of_port p = record { lane = p.lane; sent = p.sent; fetched = p.fetched }

-- the port may give a line back: so many answers are missing as may be, or it knows of no free place
abbrev pub IsFull : PortState → Type 0
IsFull p = (length p.sent ≡ length p.fetched + most_missing) ⊎ (p.free ≡ 0)

-- a lane, the commands that it received, and the answers that it sent, each in order; and how many places for answers
-- it knows to be free
pub record LaneState : Type 0 where
  pub lane : LaneId
  pub commands : List Line
  pub answers : List Answer
  pub free : ℕ

-- what a lane received and sent
abbrev pub subhistory_of : LaneState → Subhistory
subhistory_of lane = record { lines = lane.commands; answers = lane.answers }

-- what each of them did
abbrev pub subhistories : List LaneState → List Subhistory
subhistories lanes = map subhistory_of lanes
