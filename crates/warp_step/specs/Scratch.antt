-- Which program a scratch is of.
use Rattle.std.specs.Prelude.{◌≡◌}
use Rattle.warp_step.specs.Program.{Program}
use Rattle.warp_step.specs.inner.Room.{Room, room_of}

-- the scratch is as one that was made for this program
abbrev pub IsRoomOf : Program → Room → Type 0
IsRoomOf P room = room ≡ room_of P
