use Rattle.std.proofs.Common.{sym, subst, ◌∙◌, Some}
use Rattle.warp_arena.specs.Places.{left_at}
use Rattle.warp_run.proofs.PlacesWalks.{AreLater, later_from, none_through}
use Rattle.warp_run.proofs.walk.is_past.Goals as goal

pub returns-in-Some : goal.returns-in-Some
returns-in-Some c = λ yes rest r.
    let ps = c.args.arena.now.places in
    none_through c.args.tag ps c.args.cursor.now rest r
    (subst (λ o. AreLater (Some c.args.tag) (left_at o ps)) (sym c.in-Some.is)
    (later_from (Some c.args.tag) ps c.in-Some.node c.entry.result c.ordered.ensures.order.table c.entry.ensures.head
    (sym c.is_before.ensures ∙ yes)))

pub returns-in-None : goal.returns-in-None
returns-in-None c = λ yes rest r.
    none_through c.args.tag c.args.arena.now.places c.args.cursor.now rest r
    (subst (λ o. AreLater (Some c.args.tag) (left_at o c.args.arena.now.places)) (sym c.in-None.is) tt)
