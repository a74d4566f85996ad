-- What came out of the ring so far was taken.
use Rattle.std.proofs.Common.{◌≤◌}
use Rattle.rtrb.specs.Ring.{received}
use Rattle.warp_disk.specs.Handing.{TakesHanded}
use Rattle.warp_disk.proofs.handing.take_handed.Given as goal

abbrev pub invariant-loop : goal.invariant-loop
invariant-loop g l = (l.count ≤ l.counter)
    × TakesHanded g.D.Disk.written l.beginning l.count l.initial.keeper l.keeper (received l.initial.handed) (received l.handed)
