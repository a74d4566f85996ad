use Rattle.std.proofs.Common.{◌≡◌, ◌<◌, ℕ, take, decimal, ◌^◌, sym, ap, ◌∙◌, arith}
use Rattle.std.specs.List.{before_first, position_or_len}
use Rattle.std.proofs.lemmas.List.{length-take}
use Rattle.warp_record.specs.Number.{is_space}
use Rattle.warp_record.proofs.Numerals.{digits_of_text, text_not_empty}
use Rattle.std.proofs.lemmas.Fmt.{decimal_injective}
use Rattle.warp_record.proofs.WordFronts.{front_digit, one_digit_ends, one_digit_value}
use Rattle.warp_record.proofs.cut.one_digit.Goals as goal

pub returns-in_err-number-clause-none : goal.returns-in_err-number-clause-none
returns-in_err-number-clause-none c =
    let bytes = c.args.bytes.now in
    rw c.from_residual.ensures
    (λ n le is.
    let small : n < 2 ^ 64 = omega (arith, le, c.requires.2) in
    let digits = digits_of_text (before_first is_space bytes) n small is in
    let some = text_not_empty (before_first is_space bytes) n small is in
    c.in_err-number.ensures
    (front_digit bytes 0 (omega (arith, some, length-take (position_or_len is_space bytes) bytes)) digits.0))

pub returns-then-number-max-clause-none : goal.returns-then-number-max-clause-none
returns-then-number-max-clause-none c = λ n le is.
    let bytes = c.args.bytes.now in
    let digit = c.in_ok-number.ensures in
    let small : n < 2 ^ 64 = omega (arith, le, c.requires.2) in
    let end = one_digit_ends bytes c.requires.0 c.requires.1 digit.0 in
    let text = one_digit_value bytes c.requires.0 digit.0 in
    let front : take 1 bytes ≡ before_first is_space bytes = ap (λ (k : ℕ). take k bytes) end in
    let same = decimal_injective _ n (omega (arith, digit.0)) small (sym text ∙ front ∙ is) in
    omega (arith, same, le, c.if-number-max.true, digit.1)

pub returns-clause-found : goal.returns-clause-found
returns-clause-found c =
    let bytes = c.args.bytes.now in
    let digit = c.in_ok-number.ensures in
    let end = one_digit_ends bytes c.requires.0 c.requires.1 digit.0 in
    let text = one_digit_value bytes c.requires.0 digit.0 in
    let front : take 1 bytes ≡ before_first is_space bytes = ap (λ (k : ℕ). take k bytes) end in
    (omega (arith, c.if-number-max.false), end, sym front ∙ text ∙ ap (λ (k : ℕ). decimal k) (sym digit.1))
