-- What a host's clients move by.
use Rattle.std.specs.Prelude.{◌≡◌, ◌⊎◌, ◌++◌, ℕ, Bool, List, [], ◌∷◌, Some, slice_get, take}
use Rattle.warp_replica.specs.Answered.{TimelineFacts}
use Rattle.warp_hub.specs.declared.rights.Rights.TheVariants as rights
use Rattle.warp_watch.specs.declared.client_id.ClientId.{ClientId}
use Rattle.warp_clients.specs.Client.{ClientState, Heard, IsMe, Wrote, bytes_for}
use Rattle.warp_clients.specs.Steps.{ClientsState, Does, Enters, IsInner, Joins, Leaves, Runs, SomeRun, Step, StepDoes, Turned}
use Rattle.warp_clients.specs.Tale.{IsEmpty}
use Rattle.warp_machine.specs.declared.machine.Machine.{Machine}

-- the clients of a host, with their room
abbrev pub clients_in : {T : Type 0} → Machine T → ClientsState T
clients_in m = m.clients

-- These clients became those by steps that a host takes of its own accord: nobody comes, nothing is heard, nothing counts as
-- written, and neither a limit nor a token changes. What `what_is_told` of `warp_clients` says of steps is so of these.
pub record Moved {T : Type 0} (facts : TimelineFacts T) (s s' : ClientsState T) : Type 0 where
  pub run : SomeRun facts s s'

-- they became so by this one step
pub record Stepped {T : Type 0} (facts : TimelineFacts T) (step : Step) (s s' : ClientsState T) : Type 0 where
  pub does : StepDoes facts step s s'

-- each of these is a step that a host takes of its own accord, or such a one
abbrev pub AreAmong : (Step → Type 0) → List Step → Type 0
AreAmong May [] = Unit {0}
AreAmong May (step ∷ steps) = (IsInner step ⊎ May step) × AreAmong May steps

-- they became so by steps that a host takes of its own accord, and by such
pub record MovedWith {T : Type 0} (facts : TimelineFacts T) (May : Step → Type 0) (s s' : ClientsState T) : Type 0 where
  pub steps : List Step
  pub each : AreAmong May steps
  pub runs : Runs facts steps s s'

-- any step
abbrev pub IsAny : Step → Type 0
IsAny step = Unit {0}

-- they became so by any steps: what any calls of a host come to, one after another
abbrev pub Lived : {T : Type 0} → TimelineFacts T → ClientsState T → ClientsState T → Type 0
Lived facts s s' = MovedWith facts IsAny s s'

-- bytes are heard of a client
abbrev pub IsHearing : Step → Type 0
IsHearing step = (who : ClientId) × (bytes : List ℕ) × (step ≡ Does who (Heard bytes))

-- bytes are heard of a client, or count as written to one
abbrev pub IsPassing : Step → Type 0
IsPassing step = IsHearing step ⊎ ((who : ClientId) × (bytes : List ℕ) × (step ≡ Does who (Wrote bytes)))

-- a client comes that has all rights: the one that brings a peer's lines
abbrev pub IsFollowing : Step → Type 0
IsFollowing step = (who : ClientId) × (step ≡ Enters who rights.All)

-- they became so by steps since none had come, by which nobody came but peers' clients, and nothing was heard
pub record Began {T : Type 0} (facts : TimelineFacts T) (s' : ClientsState T) : Type 0 where
  pub first : ClientsState T
  pub empty : IsEmpty first
  pub moved : MovedWith facts IsFollowing first s'

-- these pieces of bytes, one behind another
abbrev pub all_of : List (List ℕ) → List ℕ
all_of [] = []
all_of (piece ∷ pieces) = piece ++ all_of pieces

-- steps that a host takes of its own accord, and between them these pieces are heard of this client, in their order
abbrev pub HearsEach : {T : Type 0} → TimelineFacts T → ClientId → List (List ℕ) → ClientsState T → ClientsState T → Type 0
HearsEach facts who [] s s' = Moved facts s s'
HearsEach {T} facts who (piece ∷ pieces) s s' =
    (before : ClientsState T) × (after : ClientsState T) × Moved facts s before × Stepped facts (Does who (Heard piece)) before after
    × HearsEach facts who pieces after s'

-- of these bytes the first so many are heard of this client, in their order, and of another nothing
pub record HearsOf {T : Type 0} (facts : TimelineFacts T) (who : ClientId) (bytes : List ℕ) (s s' : ClientsState T) : Type 0 where
  pub pieces : List (List ℕ)
  pub rest : List ℕ
  pub all : bytes ≡ all_of pieces ++ rest
  pub each : HearsEach facts who pieces s s'

-- the first so many bytes of this client's output count as written, and to another none; or none at all
pub record WritesOf {T : Type 0} (facts : TimelineFacts T) (who : ClientId) (count : ℕ) (s s' : ClientsState T) : Type 0 where
  pub client : ClientState
  pub there : slice_get s.crowd.clients who.key ≡ Some client
  pub me : IsMe who client
  pub between : ClientsState T
  pub writes : Stepped facts (Does who (Wrote (take count (bytes_for client)))) s between
  pub moved : Moved facts between s'

abbrev pub MayWriteOf : {T : Type 0} → TimelineFacts T → ClientId → ℕ → ClientsState T → ClientsState T → Type 0
MayWriteOf facts who count s s' = Moved facts s s' ⊎ WritesOf facts who count s s'

-- this client goes, if it is there, and nothing else happens
abbrev pub MayLeave : {T : Type 0} → TimelineFacts T → ClientId → ClientsState T → ClientsState T → Type 0
MayLeave facts who s s' = (s' ≡ s) ⊎ Stepped facts (Leaves who) s s'

-- nobody comes; or one does that has no place in the room or in the host, and goes
abbrev pub TurnsAway : {T : Type 0} → TimelineFacts T → ClientsState T → ClientsState T → Type 0
TurnsAway {T} facts s s' =
    (s' ≡ s)
    ⊎ (((who : ClientId) × Stepped facts (Turned who) s s')
    ⊎ ((who : ClientId) × (between : ClientsState T) × Stepped facts (Joins who) s between × MayLeave facts who between s'))

-- of so long a log may be told, and records are refused or not
abbrev pub with_limit : {T : Type 0} → ℕ → Bool → ClientsState T → ClientsState T
with_limit limit failing s =
    record s { crowd = record s.crowd { common = record s.crowd.common { limit = limit; failing = failing } } }
