-- what the tag is not before is a front, and its place is behind it
use Rattle.std.proofs.Common.{not, sym, rules, arith}
use Rattle.std.proofs.lemmas.List.Sorted.{IsPartitionPoint-from_clause}
use Rattle.warp_tag.specs.Moment.{is_before}
use Rattle.warp_table.proofs.InOrder.{first_place}
use Rattle.warp_table.proofs.BlockLists.{passed_in_order, not_true, not_false}
use Rattle.warp_table.proofs.blocks.place_by_halves.Goals as goal

pub returns-clause-place : goal.returns-clause-place
returns-clause-place g c =
    let parted = passed_in_order g.T.Tagged.tag_of c.args.tag c.args.items.now c.requires in
    let point = IsPartitionPoint-from_clause (λ x. not (is_before c.args.tag (g.T.Tagged.tag_of x))) _ _ c.partition_point.ensures.partitioned parted (λ a r q k. search rules) in
    sym (first_place (λ x. is_before c.args.tag (g.T.Tagged.tag_of x)) c.args.items.now c.partition_point.result c.partition_point.ensures.bound
    (λ k d l. not_true _ (point.0 k d (omega arith) l)) (λ d within. not_false _ (point.1 c.partition_point.result d (omega arith) within)))
