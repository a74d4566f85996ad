-- Where the sockets of a host stand.
use Rattle.std.specs.Prelude.{ℕ, ◌+◌}
use Rattle.warp_host.specs.declared.sockets.Whose.{Whose}
use Rattle.warp_host.specs.declared.sockets.Whose.TheVariants.{Client, Peer}

-- the place of a socket, where there are so many peers: those have the first places, by their numbers, and clients those
-- behind them, by their keys
abbrev pub place_of : ℕ → Whose → ℕ
place_of peers (Client who) = peers + who.key
place_of peers (Peer peer number) = peer
