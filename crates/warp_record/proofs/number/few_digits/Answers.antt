use Rattle.std.proofs.Common.{arith}
use Rattle.std.proofs.lemmas.Int.Digits.{digits_value_more, digits_more}
use Rattle.warp_record.proofs.Numerals.{all_digits_at, few_fit}
use Rattle.warp_record.proofs.number.few_digits.Goals as goal

pub returns-in_err-next : goal.returns-in_err-next
returns-in_err-next c =
    rw c.from_residual.ensures
    (λ all. c.in_err-next.ensures (all_digits_at c.args.word.now c.loop-byte.byte-index all c.loop-byte-test.true))

pub overflow_mul-number : goal.overflow_mul-number
overflow_mul-number c =
    let small = few_fit c.args.word.now c.loop-byte.byte-index 17 (omega (arith, c.loop-byte-test.true, c.requires)) c.loop-byte.invariant.all_digits in
    omega (arith, small, c.loop-byte.invariant.value)

pub overflow_add-number : goal.overflow_add-number
overflow_add-number c =
    let small = few_fit c.args.word.now c.loop-byte.byte-index 17 (omega (arith, c.loop-byte-test.true, c.requires)) c.loop-byte.invariant.all_digits in
    omega (arith, small, c.loop-byte.invariant.value, c.in_ok-next.ensures.0, c.in_ok-next.ensures.1)

pub loop-byte-preserved : goal.loop-byte-preserved
loop-byte-preserved c = record {
  all_digits =
      digits_more 10 c.args.word.now c.loop-byte.byte-index c.loop-byte-test.true c.loop-byte.invariant.all_digits c.in_ok-next.ensures.0;
  value =
      omega (
        arith,
        digits_value_more 10 c.args.word.now c.loop-byte.byte-index c.loop-byte-test.true,
        c.loop-byte.invariant.value,
        c.in_ok-next.ensures.1,
      );
}
