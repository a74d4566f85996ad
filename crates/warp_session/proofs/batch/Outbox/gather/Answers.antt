use Rattle.warp_session.proofs.Fronts.{front_more, on_err}
use Rattle.warp_session.proofs.batch.Outbox.gather.Goals as goal

pub returns-in_err-flush-clause-front : goal.returns-in_err-flush-clause-front
returns-in_err-flush-clause-front g c =
    on_err c.from_residual.result (front_more _ _ _ _ c.in_err-flush.ensures.front)
