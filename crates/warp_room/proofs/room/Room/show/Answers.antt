use Rattle.std.proofs.Common.{sym, subst}
use Rattle.warp_watch.specs.Shown.{ShownState}
use Rattle.warp_room.specs.Room.{AreShownBefore}
use Rattle.warp_room.proofs.ShownBefore.{shown_now}
use Rattle.warp_room.proofs.room.Room.show.Goals as goal

pub invariant_of-self : goal.invariant_of-self
invariant_of-self g c =
    let r = c.self.inside.replica in (
      c.self.invariant.0,
      subst (λ (shown : ShownState). AreShownBefore r.program r.records shown) (sym {A = ShownState} c.in_default.ensures.err) c.self.invariant.1,
      c.self.invariant.2,
      c.self.invariant.3,
    )

pub invariant_of-self-2 : goal.invariant_of-self-2
invariant_of-self-2 g c =
    let r = c.self.inside.replica in
    let before = c.self.invariant.1 in
    (c.self.invariant.0, shown_now r.program r.records c.update.new.self (c.in-Ok.ensures.shown before.0 before.1 before.2), c.self.invariant.2, c.self.invariant.3)

pub returns-clause-shows : goal.returns-clause-shows
returns-clause-shows g c =
    let before = c.self.invariant.1 in
    rw (← c.self.view_is) (c.in-Ok.ensures.shows before.0 before.1 before.2)
