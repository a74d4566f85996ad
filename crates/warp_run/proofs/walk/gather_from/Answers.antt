use Rattle.std.proofs.Common.{sym, ◌∙◌, Some}
use Rattle.warp_run.proofs.PlacesWalks.{gathers_all, later_from}
use Rattle.warp_run.proofs.walk.gather_from.Goals as goal
use Rattle.warp_run.proofs.walk.gather_from.Goals.{in-Some+then-is_before, in_default}

pub returns : goal.returns
returns c =
    let ps = c.args.arena.now.places in
    elim c.match-at.branch [
      | in-Some+then-is_before w ↦
          gathers_all c.args.tag ps c.args.cursor c.loop-at.at c.args.given.now.items c.loop-at.given.items c.loop-at.invariant _ _ w.in-Some.is w.at-is
          (later_from (Some c.args.tag) ps w.in-Some.node w.entry-entry.result c.ordered.ensures.order.table w.entry-entry.ensures.head
          (sym w.is_before.ensures ∙ w.if-is_before.true))
      | in_default w ↦
          gathers_all c.args.tag ps c.args.cursor c.loop-at.at c.args.given.now.items c.loop-at.given.items c.loop-at.invariant _ _ w.in_default.is
          (w.at-is ∙ w.in_default.is) tt
    ]
