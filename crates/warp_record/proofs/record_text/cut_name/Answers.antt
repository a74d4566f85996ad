use Rattle.std.proofs.Common.{◌∷◌, decimal, sym, ◌∙◌, arith}
use Rattle.warp_record.proofs.record_text.cut_name.Goals as goal

pub returns-in_err-time-clause-none : goal.returns-in_err-time-clause-none
returns-in_err-time-clause-none c =
    rw c.from_residual-in_err-time.ensures
    (λ origin time microstep words origin_fits time_fits microstep_fits are.
    let same = sym c.in_ok-origin.ensures.found.1 ∙ are in
    c.in_err-time.ensures.none time (decimal microstep ∷ words) (omega (arith, time_fits, c.last_time.ensures)) cc)

pub returns-in_err-micro-clause-none : goal.returns-in_err-micro-clause-none
returns-in_err-micro-clause-none c =
    rw c.from_residual-in_err-micro.ensures
    (λ origin time microstep words origin_fits time_fits microstep_fits are.
    let same = sym c.in_ok-origin.ensures.found.1 ∙ are in
    let next = c.in_ok-time.ensures.found.1 in
    c.in_err-micro.ensures.none microstep words (omega (arith, microstep_fits, c.last_microstep.ensures)) cc)
