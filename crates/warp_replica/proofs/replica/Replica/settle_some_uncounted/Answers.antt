use Rattle.std.proofs.Common.{arith, refl}
use Rattle.warp_replica.proofs.Asked.{all_done}
use Rattle.warp_replica.proofs.replica.Replica.settle_some_uncounted.Goals as goal

pub returns-then-is_settled-clause-stands : goal.returns-then-is_settled-clause-stands
returns-then-is_settled-clause-stands g c =
    rw (← c.self.view_is)
    (λ done stands.
    let run = c.is_settled.ensures.whole c.if-is_settled.true _ stands in
    (0, done, all_done g.T.Timeline.stands_for c.self.inside.timeline _ stands run, omega arith, (((λ settled. run), (λ all. refl)), (λ paused. cc))))
