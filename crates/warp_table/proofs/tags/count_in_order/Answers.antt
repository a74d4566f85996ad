-- the tags before one are a front, and the point of the partition is its length
use Rattle.std.proofs.Common.{sym, ◌∙◌, rules, arith}
use Rattle.std.proofs.lemmas.List.Sorted.{IsPartitionPoint-from_clause}
use Rattle.warp_tag.specs.Moment.{is_before}
use Rattle.warp_table.proofs.InOrder.{filter_front}
use Rattle.warp_table.proofs.BlockLists.{before_in_order}
use Rattle.warp_table.proofs.CountedTags.{count_whole}
use Rattle.warp_table.proofs.tags.count_in_order.Goals as goal

pub returns-clause-count : goal.returns-clause-count
returns-clause-count c =
    let parted = before_in_order c.args.tag c.args.tags.now c.requires in
    let point = IsPartitionPoint-from_clause (λ t. is_before t c.args.tag) _ _ c.partition_point.ensures.partitioned parted (λ a r q k. search rules) in
    sym (filter_front (λ t. is_before t c.args.tag) c.args.tags.now c.partition_point.result c.partition_point.ensures.bound
    (λ k d l. point.0 k d (omega arith) l) (λ k d l within. point.1 k d l within))

pub returns-then-is_before-clause-count : goal.returns-then-is_before-clause-count
returns-then-is_before-clause-count c =
    sym (count_whole c.args.tag c.args.tags.now c.in-Some.last.now c.in-Some.ensures.item.3.0 c.in-Some.ensures.item.1 c.requires (sym c.is_before.ensures ∙ c.if-is_before.true))
