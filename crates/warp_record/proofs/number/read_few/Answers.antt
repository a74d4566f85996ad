use Rattle.std.proofs.Common.{◌≡◌, ◌<◌, ◌^◌, ◌∙◌, sym, inl, inr, true, false, length, get_or, arith}
use Rattle.std.specs.Str.Parse.{digits_value}
use Rattle.std.proofs.lemmas.Bool.{cases_lt}
use Rattle.std.proofs.lemmas.Str.Parse.{digits_value_short}
use Rattle.warp_record.proofs.Numerals.{own, digits_of_text, text_not_empty, text_no_leading_zero, text_of_digits, empty_length, some_length}
use Rattle.warp_record.proofs.number.read_few.Goals as goal

pub returns-then-is_empty-clause-none : goal.returns-then-is_empty-clause-none
returns-then-is_empty-clause-none c = λ n fits is.
    omega (arith, text_not_empty c.args.word.now n fits is, empty_length (length c.args.word.now) c.if-is_empty.ensures)

pub returns-then-is_padded-clause-none : goal.returns-then-is_padded-clause-none
returns-then-is_padded-clause-none c = λ n fits is.
    let padded = c.is_padded.ensures.0 c.if-is_padded.true in
    text_no_leading_zero c.args.word.now n fits is padded.1 padded.0

pub returns-in_err-number-clause-none : goal.returns-in_err-number-clause-none
returns-in_err-number-clause-none c =
    rw c.from_residual.ensures
    (λ n fits is. c.in_err-number.ensures (digits_of_text c.args.word.now n fits is).0)

pub returns-clause-found : goal.returns-clause-found
returns-clause-found c =
    let word = c.args.word.now in
    let value = c.in_ok-number.ensures in
    let some : 0 < length word = some_length (length word) c.if-is_empty.ensures in
    let one : get_or word 0 0 ≡ 48 → length word ≡ 1 = λ first.
    elim (cases_lt 1 (length word)) [
      | inl more ↦ let padded = c.is_padded.ensures.1 (more, first) in (let no : true ≡ false = sym padded ∙ c.if-is_padded.false in cc)
      | inr few ↦ omega (arith, some, few)
    ] in
    let short : digits_value 10 word < 10 ^ 18 = digits_value_short own word 18 value.0 c.requires in
    let text = text_of_digits word value.0 some one (omega (arith, short)) in
    (omega (arith, short, value.1), rw value.1 text)
