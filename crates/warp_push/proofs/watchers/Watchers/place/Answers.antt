use Rattle.std.proofs.Common.{OnErr, OnOk, subst}
use Rattle.warp_push.specs.Seats.{GetsSeat, Grows}
use Rattle.warp_push.specs.Watching.{Watching}
use Rattle.warp_push.proofs.watchers.Watchers.place.Goals as goal

pub returns-clause-ok : goal.returns-clause-ok
returns-clause-ok c =
    subst (λ (w : Watching). OnOk c.place.result (GetsSeat c.args.who w.seats c.place.new.self)) c.self.view_is c.place.ensures.ok

pub returns-clause-err : goal.returns-clause-err
returns-clause-err c =
    subst (λ (w : Watching). OnErr c.place.result (Grows w.seats c.place.new.self)) c.self.view_is c.place.ensures.err
