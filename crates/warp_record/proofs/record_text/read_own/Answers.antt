use Rattle.std.proofs.Common.{[], ◌∷◌, decimal, sym, ◌∙◌, arith}
use Rattle.warp_record.proofs.record_text.read_own.Goals as goal

pub returns-in_err-events-clause-none : goal.returns-in_err-events-clause-none
returns-in_err-events-clause-none c =
    rw c.from_residual-in_err-events.ensures
    (λ origin tag events withdrawn fits are.
    let same = sym c.in_ok-origin.ensures.found.3 ∙ are in
    c.in_err-events.ensures.none events (decimal withdrawn ∷ []) (omega (arith, fits.events_fit)) cc)

pub returns-in_err-withdrawn-clause-none : goal.returns-in_err-withdrawn-clause-none
returns-in_err-withdrawn-clause-none c =
    rw c.from_residual-in_err-withdrawn.ensures
    (λ origin tag events withdrawn fits are.
    let same = sym c.in_ok-origin.ensures.found.3 ∙ are in
    let next = c.in_ok-events.ensures.found.1 in
    c.in_err-withdrawn.ensures.none withdrawn [] (omega (arith, fits.withdrawn_fit)) cc)
