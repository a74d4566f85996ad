use Rattle.std.proofs.Common.{rules}
use Rattle.std.proofs.lemmas.List.Sorted.{IsPartitionPoint-from_clause}
use Rattle.warp_tag.specs.Moment.{is_before}
use Rattle.warp_lanes.proofs.publish.rows_before.Goals as goal

pub returns-clause-before : goal.returns-clause-before
returns-clause-before c =
    rw (c.in-Some.is, ← c.first_of-known.ensures)
    (λ parted. IsPartitionPoint-from_clause (λ row. is_before row.tag c.in-Some.tag) _ _ c.partition_point.ensures.partitioned parted (λ a b f k. search rules))
