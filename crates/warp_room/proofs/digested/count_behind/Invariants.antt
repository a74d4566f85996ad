-- What is counted is the first records of the log, up to here.
use Rattle.std.proofs.Common.{◌≡◌}
use Rattle.warp_room.specs.Digested.{IsCounted}
use Rattle.warp_room.proofs.digested.count_behind.Given as goal

abbrev pub invariant-loop-index : goal.invariant-loop-index
invariant-loop-index g l = IsCounted l.replica.records l.digest × (l.digest.count ≡ l.index)
