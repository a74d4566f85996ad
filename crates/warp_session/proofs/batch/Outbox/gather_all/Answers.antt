use Rattle.std.proofs.Common.{◌+◌, ◌∙◌, [], refl, ap, arith, append-nil}
use Rattle.std.proofs.KnownBytes.{Appends-nil}
use Rattle.warp_session.proofs.Fronts.{front_of_replies, gathered_more, on_err}
use Rattle.warp_session.proofs.batch.Outbox.gather_all.Goals as goal

pub loop-at-preserved : goal.loop-at-preserved
loop-at-preserved g c = record {
  gathered = gathered_more _ _ _ _ _ _ c.args.replies.now c.loop-at.at _ (omega arith) c.index-replies-at.is
      c.loop-at.invariant.gathered c.in_ok-gather.ensures.gathered;
  sound = c.in_ok-gather.ensures.failures ∙ c.loop-at.invariant.sound;
}

pub returns-in_err-gather-clause-front : goal.returns-in_err-gather-clause-front
returns-in_err-gather-clause-front g c = on_err c.from_residual.result
    (front_of_replies _ _ _ _ _ c.args.replies.now c.loop-at.at _ (omega arith) c.index-replies-at.is
    c.loop-at.invariant.gathered c.in_err-gather.ensures.front)
