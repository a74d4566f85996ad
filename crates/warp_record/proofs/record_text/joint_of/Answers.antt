use Rattle.std.proofs.Common.{◌∷◌, [], decimal, sym, ◌∙◌, arith}
use Rattle.warp_record.proofs.record_text.joint_of.Goals as goal

pub returns-in_err-time-clause-none : goal.returns-in_err-time-clause-none
returns-in_err-time-clause-none c =
    rw c.from_residual.ensures
    (λ tag events withdrawn tag_fits events_fit withdrawn_fit are.
    c.in_err-time.ensures.none tag.time (decimal tag.microstep ∷ decimal events ∷ decimal withdrawn ∷ []) (omega (arith, tag_fits.time, c.last_time.ensures)) are)

pub returns-in_err-micro-clause-none : goal.returns-in_err-micro-clause-none
returns-in_err-micro-clause-none c =
    rw c.from_residual-in_err-micro.ensures
    (λ tag events withdrawn tag_fits events_fit withdrawn_fit are.
    let same = sym c.in_ok-time.ensures.found.1 ∙ are in
    c.in_err-micro.ensures.none tag.microstep (decimal events ∷ decimal withdrawn ∷ []) (omega (arith, tag_fits.microstep, c.last_microstep.ensures)) cc)

pub returns-in_err-events-clause-none : goal.returns-in_err-events-clause-none
returns-in_err-events-clause-none c =
    rw c.from_residual-in_err-events.ensures
    (λ tag events withdrawn tag_fits events_fit withdrawn_fit are.
    let same = sym c.in_ok-time.ensures.found.1 ∙ are in
    let next = c.in_ok-micro.ensures.found.1 in
    c.in_err-events.ensures.none events (decimal withdrawn ∷ []) (omega (arith, events_fit)) cc)

pub returns-in_err-withdrawn-clause-none : goal.returns-in_err-withdrawn-clause-none
returns-in_err-withdrawn-clause-none c =
    rw c.from_residual-in_err-withdrawn.ensures
    (λ tag events withdrawn tag_fits events_fit withdrawn_fit are.
    let same = sym c.in_ok-time.ensures.found.1 ∙ are in
    let next = c.in_ok-micro.ensures.found.1 in
    let then = c.in_ok-events.ensures.found.1 in
    c.in_err-withdrawn.ensures.none withdrawn [] (omega (arith, withdrawn_fit)) cc)
