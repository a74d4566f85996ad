use Rattle.std.proofs.Common.{◌≡◌, ◌-◌, ◌<◌, ◌^◌, true, false, length, sym, ap, ◌∙◌, length-drop, arith}
use Rattle.warp_record.proofs.FrontLines.{digits_at_place}
use Rattle.warp_record.proofs.Numerals.{few_fit}
use Rattle.warp_record.proofs.front.long_number.Goals as goal

pub returns : goal.returns
returns c =
    let bytes = c.args.bytes.now in
    let place = c.args.place in
    let text = c.from_place-text.result.now in
    let there = c.from_place-text.ensures in
    let number = c.digits_up_to-number.result.0 in
    let count = c.digits_up_to-number.result.1 in
    let digits = c.digits_up_to-number.ensures in
    let size : length text ≡ length bytes - place = ap length there ∙ length-drop place bytes in
    let small = few_fit text count 18 digits.short digits.all_digits in
    let fits : number < 10 ^ 18 = omega (arith, small, digits.value) in (
      fits,
      omega (arith, digits.short),
      digits_at_place bytes text place count number there (omega (arith, c.if-count-eq0.false)) (omega (arith, digits.short, size, c.requires))
          digits.all_digits digits.value (omega (arith, fits))
          (λ more zero. let padded = c.is_padded.ensures.1 (more, zero) in let no : true ≡ false = sym padded ∙ c.if-is_padded.false in cc),
    )
