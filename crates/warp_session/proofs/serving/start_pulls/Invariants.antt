-- The pulls that run are those from the first peers, in order; there is a desk and room for each that is left.
use Rattle.std.proofs.Common.{◌≡◌, ◌+◌, ◌++◌, ◌≤◌, length, vec_capacity, vec_len}
use Rattle.warp_session.specs.Told.{numbers_of}
use Rattle.warp_session.specs.inner.Room.{running_of}
use Rattle.warp_session.proofs.serving.start_pulls.Given as goal

abbrev pub invariant-loop-peer : goal.invariant-loop-peer
invariant-loop-peer g l =
    (running_of l.running.items ++ numbers_of l.peer-iterator.rest.items ≡ numbers_of l.fn.peers.items)
    × (length l.peer-iterator.rest.items ≤ vec_len l.desks)
    × (vec_len l.running + length l.peer-iterator.rest.items ≤ vec_capacity l.running)
    × (vec_len l.running + length l.peer-iterator.rest.items ≤ vec_len l.fn.peers)
