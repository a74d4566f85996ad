use Rattle.std.proofs.Common.{sym, ◌∙◌}
use Rattle.warp_run.proofs.PlacesWalks.{none_at_first}
use Rattle.warp_run.proofs.walk.event_before.Goals as goal

pub returns-then-not-is_before : goal.returns-then-not-is_before
returns-then-not-is_before c =
    none_at_first c.args.arena.now.places c.args.cursor c.args.tag c.in_ok-node.node c.entry-first.result
    c.ordered.ensures.order.table c.in_ok-node.was c.entry-first.ensures.head (sym c.is_before.ensures ∙ c.if-not-is_before.true)
