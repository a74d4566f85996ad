-- How a room's clients are stored.
use Rattle.std.specs.Prelude.{refl}
use Rattle.std.specs.Coded.{Coded, code_by, coded×}
use Rattle.warp_room.specs.Codes.{room_code}
use Rattle.warp_room.specs.Room.{RoomState}
use Rattle.warp_clients.specs.contracts.crowd.Crowd as crowd
use Rattle.warp_clients.specs.Crowd.{CrowdState}
use Rattle.warp_clients.specs.Steps.{ClientsState}

-- they are stored as two parts
abbrev pub clients_code : {T : Type 0} → Coded T → Coded (ClientsState T)
clients_code {T} timeline =
    code_by (RoomState T × CrowdState) (coded× (room_code timeline) crowd.the_row.coded) (λ c. (c.room, c.crowd))
    (λ p. record { room = p.0; crowd = p.1 }) (λ _. refl)
