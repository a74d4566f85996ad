use Rattle.std.proofs.Common.{◌+◌, ◌∷◌, ◌++◌, ℕ, drop, decimal, sym, ap, ◌∙◌, arith}
use Rattle.warp_record.proofs.FrontLines.{digit_at_place}
use Rattle.warp_record.proofs.front.digit_field.Goals as goal

pub returns : goal.returns
returns c =
    let bytes = c.args.bytes.now in
    let place = c.args.place in
    let digit = c.in_ok-number.ensures in (
      omega (arith, digit.0, digit.1),
      digit_at_place bytes place c.requires c.if-bytes-place-ne32.false digit.0
          ∙ ap (λ (n : ℕ). 32 ∷ decimal n ++ drop (place + 2) bytes) (sym digit.1),
    )
