-- What a host has of its peers.
use Rattle.std.specs.Prelude.{ℕ, Bool, false, ◌&&◌, if◌then◌else◌, List, [], Option, Some, None, slice_get}
use Rattle.warp_service.specs.Contact.{is_number, is_open}
use Rattle.warp_service.specs.Peers.{PeerState}
use Rattle.warp_machine.specs.declared.machine.Machine.{Machine}
use Rattle.warp_machine.specs.declared.peering.Followed.{Followed}

-- the peer that is followed in a place, if there is one
abbrev pub peer_of : Option Followed → Option PeerState
peer_of None = None
peer_of (Some followed) = Some followed.peer

-- the peer of this number, if a host has it
abbrev pub peer_in : {T : Type 0} → Machine T → ℕ → Option PeerState
peer_in m number = peer_of (slice_get m.peers.items number)

-- its name; nothing where there is none
abbrev pub name_of : Option PeerState → List ℕ
name_of None = []
name_of (Some p) = p.name

-- whether bytes of its connection of this number are wanted
abbrev pub wants_of : ℕ → Option PeerState → Bool
wants_of number None = false
wants_of number (Some p) = is_number number p.contact && is_open p.contact.way && p.contact.is_wanted

-- what is to be sent by its connection of this number, and nothing by another
abbrev pub said_of : ℕ → Option PeerState → List ℕ
said_of number None = []
said_of number (Some p) = if is_number number p.contact then p.said else []
