-- behind the last row, or at it
use Rattle.std.proofs.Common.{sym, ◌∙◌}
use Rattle.warp_table.proofs.OriginRows.{at_last, behind_last}
use Rattle.warp_table.proofs.rows.place_of.Goals as goal

pub returns-then-is_before : goal.returns-then-is_before
returns-then-is_before c =
    behind_last c.args.tag c.in-Some.last.now c.args.rows.now c.requires c.in-Some.ensures.item.3.0 c.in-Some.ensures.item.1 (sym c.is_before.ensures ∙ c.if-is_before.true)

pub returns : goal.returns
returns c =
    at_last c.args.tag c.in-Some.last.now c.args.rows.now c.requires c.in-Some.ensures.item.3.0 c.in-Some.ensures.item.1
    (sym c.is_before.ensures ∙ c.if-is_before.false) (sym c.is_before-2.ensures ∙ c.if-is_before-2.false)
