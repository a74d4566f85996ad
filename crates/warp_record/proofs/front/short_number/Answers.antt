use Rattle.std.proofs.Common.{◌≡◌, ◌-◌, ◌<◌, ◌^◌, true, false, length, sym, ap, ◌∙◌, length-drop, arith}
use Rattle.warp_record.proofs.FrontLines.{digits_at_place}
use Rattle.warp_record.proofs.Numerals.{few_fit}
use Rattle.warp_record.proofs.front.short_number.Goals as goal

pub returns : goal.returns
returns c =
    let bytes = c.args.bytes.now in
    let place = c.args.place in
    let text = c.from_place-text.result.now in
    let there = c.from_place-text.ensures in
    let count = c.count_digits-count.result in
    let value = c.value_of_first.result in
    let digits = c.count_digits-count.ensures in
    let size : length text ≡ length bytes - place = ap length there ∙ length-drop place bytes in
    let few : count < 8 = omega (arith, digits.short, c.if-count-eq-EIGHT.false) in
    let small = few_fit text count 7 (omega (arith, few)) digits.all_digits in
    let fits : value < 10 ^ 7 = omega (arith, small, c.value_of_first.ensures) in (
      fits,
      omega (arith, few),
      digits_at_place bytes text place count value there (omega (arith, c.if-count-eq0.false)) (omega (arith, few, size, c.requires))
          digits.all_digits c.value_of_first.ensures (omega (arith, fits))
          (λ long zero. let padded = c.is_padded.ensures.1 (long, zero) in let no : true ≡ false = sym padded ∙ c.if-is_padded.false in cc),
    )
