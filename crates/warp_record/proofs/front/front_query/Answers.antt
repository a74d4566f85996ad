use Rattle.std.proofs.Common.{◌∷◌, ◌++◌, ℕ, drop, codes, decimal, sym, ap, ◌∙◌, arith}
use Rattle.warp_record.proofs.FrontLines.{var_front}
use Rattle.warp_record.proofs.front.front_query.Goals as goal

pub returns : goal.returns
returns c =
    let bytes = c.args.bytes.now in
    let word = c.are_four.ensures.0 c.if-not-are_four.false in
    let digit = c.in_ok-number.ensures in (
      omega (arith, digit.0, digit.1),
      var_front bytes c.requires word.0 word.1 word.2 word.3 digit.0 c.if-bytes-ne10.false
          ∙ ap (λ (n : ℕ). codes "var" ++ 32 ∷ decimal n ++ 10 ∷ drop 6 bytes) (sym digit.1),
    )
