use Rattle.warp_room.proofs.Hearing.{err_lost, ok_kept}
use Rattle.warp_room.proofs.queues.Seat.hear.Goals as goal

pub returns-clause-ok : goal.returns-clause-ok
returns-clause-ok c =
    rw (← c.self.view_is)
    (ok_kept c.keep.result c.heard.result _
    (λ h. λ i. record { round = c.self.inside.round; taken = c.self.inside.taken; lines = c.keep.ensures.kept h i }) c.heard.ensures.lost)

pub returns-clause-err : goal.returns-clause-err
returns-clause-err c =
    rw (← c.self.view_is)
    (err_lost c.keep.result c.heard.result _ c.heard.ensures.kept c.heard.ensures.lost
    (λ h. λ i. record { round = c.self.inside.round; taken = c.self.inside.taken; lines = c.keep.ensures.lost h i }))
