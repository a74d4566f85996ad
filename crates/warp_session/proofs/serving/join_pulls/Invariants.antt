-- What has ended and what is left to wait for is all that runs, and there is room for it.
use Rattle.std.proofs.Common.{◌≡◌, ◌+◌, ◌++◌, ◌≤◌, length, vec_capacity, vec_len}
use Rattle.warp_session.specs.Told.{ended_of}
use Rattle.warp_session.specs.inner.Room.{running_of}
use Rattle.warp_session.proofs.serving.join_pulls.Given as goal

abbrev pub invariant-loop-pull : goal.invariant-loop-pull
invariant-loop-pull g l =
    (ended_of l.ended.items ++ running_of l.pull-iterator.rest.items ≡ running_of l.fn.running.items)
    × (vec_len l.ended + length l.pull-iterator.rest.items ≤ vec_capacity l.ended)
