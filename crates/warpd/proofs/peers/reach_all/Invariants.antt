-- There are no more connections than words so far.
use Rattle.std.proofs.Common.{◌≤◌}
use Rattle.std.specs.Prelude.{vec_len}
use Rattle.warpd.proofs.peers.reach_all.Given as goal

abbrev pub invariant-loop-name : goal.invariant-loop-name
invariant-loop-name g l = vec_len l.peers ≤ l.name-index
