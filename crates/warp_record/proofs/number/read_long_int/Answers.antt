use Rattle.std.proofs.Common.{◌≡◌, get_or, take, drop, length, ◌-◌, arith}
use Rattle.warp_record.proofs.Numerals.{minus_text, no_minus_zero}
use Rattle.warp_record.proofs.number.read_long_int.Goals as goal

pub returns-in_err-size-in-45-clause-none : goal.returns-in_err-size-in-45-clause-none
returns-in_err-size-in-45-clause-none c =
    rw c.from_residual.ensures
    (λ n fits is.
    let minus : get_or c.args.word.now 0 0 ≡ 45 = omega arith in
    let size = minus_text c.args.word.now n fits minus is in
    c.in_err-size-in-45.ensures.none size.0 size.2 size.3)

pub returns-in-0-clause-none : goal.returns-in-0-clause-none
returns-in-0-clause-none c = λ n fits is.
    let minus : get_or c.args.word.now 0 0 ≡ 45 = omega arith in
    let size = minus_text c.args.word.now n fits minus is in
    no_minus_zero (take (length c.args.word.now - 1) (drop 1 c.args.word.now)) size.0 c.in_ok-size-in-45.size
    size.1 size.2 c.in-0.is size.3 c.in_ok-size-in-45.ensures.found.1
