-- Bytes of a client that came and for which it had no room yet.
use Rattle.std.specs.Prelude.{◌≡◌, ◌⊎◌, ◌++◌, ℕ, Bool, IsTrue, List, [], Some, drop, length, map, min, slice_get, take}
use Rattle.warp_replica.specs.Answered.{TimelineFacts}
use Rattle.warp_watch.specs.declared.client_id.ClientId.{ClientId}
use Rattle.warp_clients.specs.Client.{Heard}
use Rattle.warp_clients.specs.Steps.{ClientsState, Does}
use Rattle.warp_machine.specs.Moving.{HearsOf, Moved, Stepped}
use Rattle.warp_machine.specs.declared.conn.Conn.{Conn}
use Rattle.warp_machine.specs.declared.conns.Conns.{Conns}
use Rattle.warp_machine.specs.declared.machine.Machine.{Machine}

-- of a place of a connection: whether one is there, in which round, and the bytes that are kept for its client
pub record Keeping : Type 0 where
  pub here : Bool
  pub round : ℕ
  pub bytes : List ℕ

abbrev pub keeping : Conn → Keeping
keeping conn = record { here = conn.is_here; round = conn.round; bytes = conn.rest.items }

-- so of all places
abbrev pub keepings : Conns → List Keeping
keepings conns = map keeping conns.all.items

-- nothing is kept in a place, of this round, where one is or not
abbrev pub keeps_none : Bool → ℕ → Keeping
keeps_none here round = record { here = here; round = round; bytes = [] }

-- the first so many bytes are kept in a place no more
abbrev pub keeps_behind : ℕ → Keeping → Keeping
keeps_behind count place = record place { bytes = drop (min count (length place.bytes)) place.bytes }

-- what a host keeps for its clients
abbrev pub keepings_in : {T : Type 0} → Machine T → List Keeping
keepings_in m = keepings m.conns

-- the place of a client
abbrev pub IsPlaceOf : ClientId → Keeping → Type 0
IsPlaceOf who place = IsTrue place.here × (place.round ≡ who.round)

-- these bytes are kept for this client in these places; or there are none
abbrev pub AreKept : List Keeping → ClientId → List ℕ → Type 0
AreKept places who bytes =
    (bytes ≡ []) ⊎ ((place : Keeping) × (slice_get places who.key ≡ Some place) × IsPlaceOf who place × (bytes ≡ place.bytes))

-- nothing is kept for it
abbrev pub NoneKept : List Keeping → ClientId → Type 0
NoneKept places who = (bytes : List ℕ) → AreKept places who bytes → bytes ≡ []

-- these bytes are kept behind those that were, or they are not
abbrev pub KeepsOn : List ℕ → Keeping → Keeping → Type 0
KeepsOn bytes old new = (new ≡ old) ⊎ (new ≡ record old { bytes = old.bytes ++ bytes })

-- for this client these are kept, too, or what was kept is
abbrev pub KeepsFor : List ℕ → ClientId → List Keeping → List Keeping → Type 0
KeepsFor bytes who old new =
    (after : List ℕ) → AreKept new who after → (before : List ℕ) × AreKept old who before × ((after ≡ before) ⊎ (after ≡ before ++ bytes))

-- of what was kept for this client the first so many bytes are heard of it, and of another nothing
abbrev pub HearsKept : {T : Type 0} → TimelineFacts T → List Keeping → ClientId → ClientsState T → ClientsState T → Type 0
HearsKept facts places who s s' = (kept : List ℕ) × AreKept places who kept × HearsOf facts who kept s s'

-- of what was kept for this client, and of these bytes behind it
abbrev pub HearsBehind : {T : Type 0} → TimelineFacts T → List Keeping → ClientId → List ℕ → ClientsState T → ClientsState T → Type 0
HearsBehind facts places who bytes s s' = (kept : List ℕ) × AreKept places who kept × HearsOf facts who (kept ++ bytes) s s'

-- Of these bytes so many are taken from this client now: none where some are kept; else the first of them are heard, or its
-- connection is lost. For a proof alone.
abbrev pub TakesFirst : {T : Type 0} → TimelineFacts T → List Keeping → ClientId → List ℕ → ℕ → ClientsState T → ClientsState T → Type 0
TakesFirst facts places who bytes count s s' =
    ((count ≡ 0) × (s' ≡ s))
    ⊎ (NoneKept places who
    × (Stepped facts (Does who (Heard (take count bytes))) s s' ⊎ ((count ≡ length bytes) × Moved facts s s')))
