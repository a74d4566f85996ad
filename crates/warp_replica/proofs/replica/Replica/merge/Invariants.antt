use Rattle.std.proofs.Common.{◌-◌, length}
use Rattle.warp_replica.proofs.MergeChains.{Merging}
use Rattle.warp_replica.proofs.replica.Replica.merge.Given as goal

abbrev pub invariant-loop-record : goal.invariant-loop-record
invariant-loop-record g l = Merging g.T.Timeline.stands_for g.T.Timeline.floor g.T.Timeline.SLACK g.T.Timeline.drops g.T.Timeline.settled l.initial.self l.self l.other.records l.count

abbrev pub decreases-loop-record : goal.decreases-loop-record
decreases-loop-record g l = length l.other.records - l.count
