-- A client that comes with rights of its own.
use Rattle.std.specs.Prelude.{◌≡◌, ◌⊎◌, List, [], ◌∷◌, ◌++◌, Some, false, length, slice_get, slice_set}
use Rattle.warp_hub.specs.declared.rights.Rights.{Rights}
use Rattle.warp_watch.specs.declared.client_id.ClientId.{ClientId}
use Rattle.warp_clients.specs.Client.{ClientState, Common}
use Rattle.warp_clients.specs.Crowd.{IsFresh}

-- these are its rights from now on
abbrev pub HasRights : Rights → ClientState → ClientState → Type 0
HasRights rights c c' = c' ≡ record c { rights = rights }

-- a client that has said nothing, but has these rights
abbrev pub IsFreshAs : Rights → Common → ClientId → ClientState → Type 0
IsFreshAs rights k who c = (first : ClientState) × IsFresh k who first × HasRights rights first c

-- it has a place behind the others, or one where nobody is
abbrev pub GetsPlaceAs : Rights → Common → ClientId → List ClientState → List ClientState → Type 0
GetsPlaceAs rights k who old new =
    (c : ClientState) × IsFreshAs rights k who c
    × (((who.key ≡ length old) × (new ≡ old ++ c ∷ []))
    ⊎ ((left : ClientState) × (slice_get old who.key ≡ Some left) × (left.here ≡ false) × (new ≡ slice_set old who.key c)))
