-- What a host keeps stays what it keeps.
use Rattle.std.proofs.Common.{◌≡◌, ◌<◌, ℕ, Bool, List, IsTrue, subst, sym}
use Rattle.warp_table.specs.Records.{set_of}
use Rattle.warp_keep.specs.Judging.{IsFirstNotToBeKept, MayBeKept}
use Rattle.warp_replica.specs.Answered.{TimelineFacts}
use Rattle.warp_room.specs.Room.{RoomState}
use Rattle.warp_room.specs.Steps.{RoomRuns, RoomStep}
use Rattle.warp_clients.specs.Steps.{ClientsState, Runs, Step}
use Rattle.warp_clients.specs.Tale.{room_steps}
use Rattle.warp_machine.specs.Moving.{MovedWith}

-- by what the laws say of steps of clients, and of those of a room
pub keeps_on : {T : Type 0} (facts : TimelineFacts T) (May : Step → Type 0) (s s' : ClientsState T)
    → ((steps : List Step) (s s' : ClientsState T) → Runs facts steps s s' → RoomRuns facts (room_steps steps) s.room s'.room)
    → ((steps : List RoomStep) (r r' : RoomState T) → RoomRuns facts steps r r'
    → (r'.keeping ≡ r.keeping) × (r'.replica.program ≡ r.replica.program))
    → MovedWith facts May s s' → s'.room.keeping ≡ s.room.keeping
keeps_on facts May s s' rooms same moved =
    (same (room_steps moved.steps) s.room s'.room (rooms moved.steps s s' moved.runs)).0

-- over a new room: an origin that may be kept is not the first that may not
pub never : {T : Type 0} (keeps : ℕ → Bool) (room made : RoomState T) (origin : ℕ) → room ≡ made
    → ((other : ℕ) → other < made.replica.program.origins → IsTrue (keeps other) → MayBeKept (set_of made.replica.records) other)
    → IsFirstNotToBeKept keeps room.replica.program (set_of room.replica.records) origin → ⊥
never {T} keeps room made origin same may first =
    first.may_not (subst (λ (r : RoomState T). MayBeKept (set_of r.replica.records) origin) (sym same)
    (may origin (subst (λ (r : RoomState T). origin < r.replica.program.origins) same first.declared) first.kept))
