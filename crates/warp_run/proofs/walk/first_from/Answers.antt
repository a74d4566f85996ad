use Rattle.std.proofs.Common.{sym, ◌∙◌, refl, Some}
use Rattle.warp_run.proofs.PlacesWalks.{later_from, passes_all}
use Rattle.warp_run.proofs.walk.first_from.Goals as goal

pub returns-then-is_before : goal.returns-then-is_before
returns-then-is_before c =
    let ps = c.args.arena.now.places in
    passes_all c.args.last ps c.args.cursor c.loop-at.at c.loop-at.invariant _ _ c.in-Some.is refl
    (later_from (Some c.args.last) ps c.in-Some.node c.entry.result c.ordered.ensures.order.table c.entry.ensures.head
    (sym c.is_before.ensures ∙ c.if-is_before.true))
