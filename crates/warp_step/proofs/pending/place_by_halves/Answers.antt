-- the entries that come before are a front, and the point of the partition is its length
use Rattle.std.proofs.Common.{rules}
use Rattle.std.proofs.lemmas.List.Sorted.{IsPartitionPoint-from_clause}
use Rattle.warp_step.proofs.PendingLemmas.{ahead, in_front, point_is_front}
use Rattle.warp_step.proofs.pending.place_by_halves.Goals as goal

pub returns-clause-place : goal.returns-clause-place
returns-clause-place c =
    let parted = in_front c.args.tag c.args.target c.args.entries.now c.requires in
    let point = IsPartitionPoint-from_clause (ahead c.args.tag c.args.target) _ _ c.partition_point.ensures.partitioned parted (λ a r q k. search rules) in
    point_is_front (ahead c.args.tag c.args.target) c.args.entries.now c.partition_point.result c.partition_point.ensures.bound point
