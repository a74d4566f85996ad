use Rattle.std.proofs.Common.{◌≡◌, ◌<◌, ◌∙◌, sym, inl, inr, true, false, length, get_or, arith}
use Rattle.std.proofs.lemmas.Bool.{cases_lt}
use Rattle.warp_record.proofs.Numerals.{no_text, value_of_text, text_not_empty, text_no_leading_zero, text_of_digits, empty_length, some_length}
use Rattle.warp_record.proofs.number.read_number.Goals as goal

pub returns-then-is_empty-clause-none : goal.returns-then-is_empty-clause-none
returns-then-is_empty-clause-none c = λ n le is.
    let some = text_not_empty c.args.word.now n (omega (arith, c.ranges.max)) is in
    omega (arith, some, empty_length (length c.args.word.now) c.if-is_empty.ensures)

pub returns-then-is_padded-clause-none : goal.returns-then-is_padded-clause-none
returns-then-is_padded-clause-none c = λ n le is.
    let padded = c.is_padded.ensures.0 c.if-is_padded.true in
    text_no_leading_zero c.args.word.now n (omega (arith, c.ranges.max)) is padded.1 padded.0

pub returns-in_err-number-clause-none : goal.returns-in_err-number-clause-none
returns-in_err-number-clause-none c =
    rw c.from_residual.ensures
    (λ n le is. no_text c.args.word.now n (omega (arith, c.ranges.max)) c.in_err-number.ensures is)

pub returns-then-number-max-clause-found : goal.returns-then-number-max-clause-found
returns-then-number-max-clause-found c =
    let value = c.in_ok-number.ensures in
    let some : 0 < length c.args.word.now = some_length (length c.args.word.now) c.if-is_empty.ensures in
    let one : get_or c.args.word.now 0 0 ≡ 48 → length c.args.word.now ≡ 1 = λ first.
    elim (cases_lt 1 (length c.args.word.now)) [
      | inl more ↦ let padded = c.is_padded.ensures.1 (more, first) in (let no : true ≡ false = sym padded ∙ c.if-is_padded.false in cc)
      | inr few ↦ omega (arith, some, few)
    ] in
    let text = text_of_digits c.args.word.now value.0.0 some one value.0.1 in
    (c.if-number-max.true, rw value.1 text)

pub returns-else-number-max-clause-none : goal.returns-else-number-max-clause-none
returns-else-number-max-clause-none c = λ n le is.
    let value = value_of_text c.args.word.now n (omega (arith, c.ranges.max)) is in
    omega (arith, c.if-number-max.false, value, c.in_ok-number.ensures.1)
