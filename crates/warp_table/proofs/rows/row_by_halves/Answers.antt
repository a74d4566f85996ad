-- the rows before the tag are a front, and its place is behind them
use Rattle.std.proofs.Common.{rules, arith}
use Rattle.std.proofs.lemmas.List.Sorted.{IsPartitionPoint-from_clause}
use Rattle.warp_tag.specs.Moment.{is_before}
use Rattle.warp_table.proofs.OriginRows.{before_first, place_is}
use Rattle.warp_table.proofs.rows.row_by_halves.Goals as goal

pub returns-clause-place : goal.returns-clause-place
returns-clause-place c =
    let parted = before_first c.args.tag c.args.rows.now c.requires in
    let point = IsPartitionPoint-from_clause (λ r. is_before r.tag c.args.tag) _ _ c.partition_point.ensures.partitioned parted (λ a r q k. search rules) in
    place_is c.args.tag c.args.rows.now c.partition_point.result c.partition_point.ensures.bound
    (λ k d l. point.0 k d (omega arith) l) (λ d within. point.1 c.partition_point.result d (omega arith) within)
