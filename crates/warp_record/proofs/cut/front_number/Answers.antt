use Rattle.std.proofs.Common.{◌≡◌, ◌<◌, ◌≤◌, ◌^◌, ◌∙◌, sym, inl, inr, true, false, length, get_or, arith}
use Rattle.std.specs.List.{before_first, position_or_len}
use Rattle.std.proofs.lemmas.Bool.{cases_lt}
use Rattle.std.proofs.lemmas.Fmt.{length-decimal-le}
use Rattle.std.proofs.lemmas.List.{length-take}
use Rattle.warp_record.specs.Number.{is_space}
use Rattle.warp_record.proofs.Numerals.{digits_of_text, text_not_empty, text_no_leading_zero, text_of_digits}
use Rattle.warp_record.proofs.WordFronts.{front_within, front_digit}
use Rattle.warp_record.proofs.cut.front_number.Goals as goal

-- The first byte is a digit of the word, so the digits at the front are some.
pub returns-then-count-eq0-clause-none : goal.returns-then-count-eq0-clause-none
returns-then-count-eq0-clause-none c = λ n le is.
    let bytes = c.args.bytes.now in
    let count = c.front_digits-number.result.1 in
    let small : n < 2 ^ 64 = omega (arith, le, c.requires) in
    let some = text_not_empty (before_first is_space bytes) n small is in
    let digits = digits_of_text (before_first is_space bytes) n small is in
    let long = length-take (position_or_len is_space bytes) bytes in
    let below : count < position_or_len is_space bytes = omega (arith, c.if-count-eq0.true, some, long) in
    c.front_digits-number.ensures.end (omega (arith, c.if-count-eq0.true)) (omega (arith, below, front_within bytes))
    (front_digit bytes count below digits.0)

-- A number up to the maximum has few digits, and all of them were taken.
pub returns-then-not-ends_word-clause-none : goal.returns-then-not-ends_word-clause-none
returns-then-not-ends_word-clause-none c = λ n le is.
    let bytes = c.args.bytes.now in
    let count = c.front_digits-number.result.1 in
    let small : n < 2 ^ 64 = omega (arith, le, c.requires) in
    let digits = digits_of_text (before_first is_space bytes) n small is in
    let few : length (before_first is_space bytes) ≤ 18 = rw is (length-decimal-le 18 n (omega arith) (omega (arith, le, c.requires)) small) in
    let long = length-take (position_or_len is_space bytes) bytes in
    elim (cases_lt count (position_or_len is_space bytes)) [
      | inl below ↦
          c.front_digits-number.ensures.end (omega (arith, below, few, long, front_within bytes)) (omega (arith, below, front_within bytes))
          (front_digit bytes count below digits.0)
      | inr over ↦
          let ends = c.ends_word.ensures.1 (omega (arith, over, c.front_digits-number.ensures.within)) in
          let no : true ≡ false = sym ends ∙ c.if-not-ends_word.true in
          cc
    ]

pub slice_bounds-is_padded-end : goal.slice_bounds-is_padded-end
slice_bounds-is_padded-end c =
    let bytes = c.args.bytes.now in
    omega (arith, c.front_digits-number.ensures.within, front_within bytes, length-take c.front_digits-number.result.1 bytes)

pub returns-then-is_padded-clause-none : goal.returns-then-is_padded-clause-none
returns-then-is_padded-clause-none c = λ n le is.
    let padded = c.is_padded.ensures.0 c.if-is_padded.true in
    let at_word = rw (c.ends_word.ensures.0 c.if-not-ends_word.false) at padded in
    text_no_leading_zero (before_first is_space c.args.bytes.now) n (omega (arith, le, c.requires)) is at_word.1 at_word.0

pub returns-then-number-max-clause-none : goal.returns-then-number-max-clause-none
returns-then-number-max-clause-none c = λ n le is.
    let value = rw (c.ends_word.ensures.0 c.if-not-ends_word.false) at c.front_digits-number.ensures.value in
    let digits = digits_of_text (before_first is_space c.args.bytes.now) n (omega (arith, le, c.requires)) is in
    omega (arith, le, digits.1, value, c.if-number-max.true)

pub returns-clause-found : goal.returns-clause-found
returns-clause-found c =
    let bytes = c.args.bytes.now in
    let word = before_first is_space bytes in
    let end = c.ends_word.ensures.0 c.if-not-ends_word.false in
    let value = rw end at c.front_digits-number.ensures.value in
    let all = rw end at c.front_digits-number.ensures.all_digits in
    let long = length-take (position_or_len is_space bytes) bytes in
    let some : 0 < length word = omega (arith, long, front_within bytes, end, c.if-count-eq0.false) in
    let one : get_or word 0 0 ≡ 48 → length word ≡ 1 = λ first.
    elim (cases_lt 1 (length word)) [
      | inl more ↦ let padded = c.is_padded.ensures.1 (rw end (more, first)) in (let no : true ≡ false = sym padded ∙ c.if-is_padded.false in cc)
      | inr few ↦ omega (arith, some, few)
    ] in
    let text = text_of_digits word all some one (omega (arith, value, c.if-number-max.false, c.requires)) in
    (omega (arith, c.if-number-max.false), end, rw value at text)
