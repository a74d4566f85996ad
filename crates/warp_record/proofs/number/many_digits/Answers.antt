use Rattle.std.proofs.Common.{◌<◌, ◌^◌, ℕ, arith, subst}
use Rattle.std.proofs.lemmas.Int.Digits.{digits_value_more, digits_more}
use Rattle.std.proofs.lemmas.List.{take_all}
use Rattle.warp_record.proofs.Numerals.{next_fits}
use Rattle.warp_record.proofs.number.many_digits.Goals as goal

pub returns-in_err-number : goal.returns-in_err-number
returns-in_err-number c =
    rw c.from_residual.ensures
    (λ fits. c.in_err-number.ensures
    (next_fits c.args.word.now c.loop-byte.byte-index c.loop-byte.number c.loop-byte-test.true fits.0 fits.1
    c.loop-byte.invariant.value))

pub loop-byte-preserved : goal.loop-byte-preserved
loop-byte-preserved c = record {
  all_digits =
      digits_more 10 c.args.word.now c.loop-byte.byte-index c.loop-byte-test.true c.loop-byte.invariant.all_digits
      c.in_ok-number.ensures.0.0;
  value =
      omega (
        arith,
        digits_value_more 10 c.args.word.now c.loop-byte.byte-index c.loop-byte-test.true,
        c.loop-byte.invariant.value,
        c.in_ok-number.ensures.1,
      );
  fits = omega (arith, c.in_ok-number.ensures.0.1, c.in_ok-number.ensures.1);
}

pub returns : goal.returns
returns c =
    let e = take_all c.loop-byte.byte-index c.args.word.now c.loop-byte-test.false in
    let all = rw e at c.loop-byte.invariant.all_digits in
    let value = rw e at c.loop-byte.invariant.value in
    ((all, subst (λ (n : ℕ). n < 2 ^ 64) value c.loop-byte.invariant.fits), value)
