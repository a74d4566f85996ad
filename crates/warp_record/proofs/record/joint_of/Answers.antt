use Rattle.warp_record.proofs.record.joint_of.Goals as goal

pub returns-in_err-tag-clause-none : goal.returns-in_err-tag-clause-none
returns-in_err-tag-clause-none c =
    rw c.from_residual.ensures
    (λ tag events withdrawn tag_fits events_fit withdrawn_fit is_time is_micro are. c.in_err-tag.ensures.none tag tag_fits is_time is_micro)

pub returns-in_err-events-clause-none : goal.returns-in_err-events-clause-none
returns-in_err-events-clause-none c =
    rw c.from_residual-in_err-events.ensures
    (λ tag events withdrawn tag_fits events_fit withdrawn_fit is_time is_micro are. c.in_err-events.ensures.none events withdrawn events_fit withdrawn_fit are)
