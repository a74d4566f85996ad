use Rattle.std.proofs.Common.{◌<◌, length, get_or, arith}
use Rattle.std.proofs.lemmas.Int.Digits.{digits_value_more, digits_more}
use Rattle.warp_record.proofs.Numerals.{few_fit}
use Rattle.warp_record.proofs.WordFronts.{front_goes_on, digit_no_space}
use Rattle.warp_record.proofs.cut.digits_up_to.Goals as goal

pub overflow_mul-number : goal.overflow_mul-number
overflow_mul-number c =
    let place = c.loop-place.place in
    let small = few_fit c.args.bytes.now place 17 (omega (arith, c.loop-place-test.true, c.requires.0, c.requires.1)) c.loop-place.invariant.all_digits in
    omega (arith, small, c.loop-place.invariant.value)

pub overflow_add-number : goal.overflow_add-number
overflow_add-number c =
    let place = c.loop-place.place in
    let small = few_fit c.args.bytes.now place 17 (omega (arith, c.loop-place-test.true, c.requires.0, c.requires.1)) c.loop-place.invariant.all_digits in
    omega (arith, small, c.loop-place.invariant.value, c.in-Some.ensures.0, c.in-Some.ensures.1)

pub loop-place-preserved : goal.loop-place-preserved
loop-place-preserved c =
    let bytes = c.args.bytes.now in
    let place = c.loop-place.place in
    let below : place < length bytes = omega (arith, c.loop-place-test.true, c.requires.0, c.requires.1) in
    let other = digit_no_space (get_or bytes place 0) c.in-Some.ensures.0 in
    record {
      within = front_goes_on bytes place c.loop-place.invariant.within below other;
      all_digits = digits_more 10 bytes place below c.loop-place.invariant.all_digits c.in-Some.ensures.0;
      value = omega (arith, digits_value_more 10 bytes place below, c.loop-place.invariant.value, c.in-Some.ensures.1);
      few = omega (arith, c.loop-place-test.true);
    }
