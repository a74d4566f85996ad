use Rattle.std.proofs.Common.{◌-◌, length}
use Rattle.warp_replica.proofs.RaisedRecords.{TakesOver}
use Rattle.warp_replica.proofs.replica.Replica.take_all.Given as goal

abbrev pub invariant-loop-record : goal.invariant-loop-record
invariant-loop-record g l = TakesOver g.T.Timeline.floor l.initial.self l.self l.other.records l.count

abbrev pub decreases-loop-record : goal.decreases-loop-record
decreases-loop-record g l = length l.other.records - l.count
