-- where none is beyond the tag, its place is behind all
use Rattle.std.proofs.Common.{length, sym, arith}
use Rattle.warp_tag.specs.Moment.{is_before}
use Rattle.warp_table.proofs.InOrder.{first_place}
use Rattle.warp_table.proofs.tags.place.Goals as goal

pub returns-then-is_behind_all-clause-place : goal.returns-then-is_behind_all-clause-place
returns-then-is_behind_all-clause-place g c =
    sym (first_place (λ a. is_before c.args.tag (g.T.Tagged.tag_of a)) c.args.items.now (length c.args.items.now) (omega arith)
    (λ k d l. c.is_behind_all.ensures c.if-is_behind_all.true k d l) (λ d l. absurd (omega arith)))
