use Rattle.std.proofs.Common.{◌≡◌, get_or, take, drop, length, ◌-◌, arith, inl, inr, ◌∙◌}
use Rattle.std.proofs.lemmas.Bool.{cases_eq, eq-eqb, ne_eqb}
use Rattle.std.proofs.lemmas.List.{take_rest}
use Rattle.warp_record.proofs.Numerals.{minus_text, plain_text, signed_not_empty, empty_length, no_minus_zero}
use Rattle.warp_record.proofs.number.read_int.Goals as goal

pub returns-then-is_empty-clause-none : goal.returns-then-is_empty-clause-none
returns-then-is_empty-clause-none c = λ n fits is.
    omega (arith, signed_not_empty c.args.word.now n fits is, empty_length (length c.args.word.now) c.if-is_empty.ensures)

pub returns-in_err-size-clause-none : goal.returns-in_err-size-clause-none
returns-in_err-size-clause-none c =
    let word = c.args.word.now in
    rw c.from_residual.ensures
    (λ z fits is.
    elim (cases_eq (get_or word 0 0) 45) [
      | inl minus ↦
          let behind : c.from.result ≡ 1 = rw (eq-eqb _ _ minus) at c.from.ensures in
          let size = minus_text word z fits minus is in
          c.in_err-size.ensures.none size.0 (omega (arith, size.2)) (rw behind size.3)
      | inr plain ↦
          let front : c.from.result ≡ 0 = rw (ne_eqb _ _ plain) at c.from.ensures in
          let size = plain_text word z fits plain is in
          c.in_err-size.ensures.none size.0 (omega (arith, size.1)) (rw front (take_rest word 0 ∙ size.2))
    ])

pub returns-then-minus-clause-none : goal.returns-then-minus-clause-none
returns-then-minus-clause-none c = λ z fits is.
    let word = c.args.word.now in
    let minus = c.if-minus.true in
    let behind : c.from.result ≡ 1 = rw (eq-eqb _ _ minus) at c.from.ensures in
    let size = minus_text word z fits minus is in
    let none = rw behind at c.in_ok-size.ensures.found.1 in
    no_minus_zero (take (length word - 1) (drop 1 word)) size.0 c.in_ok-size.size size.1 size.2 c.if-size-eq0.true size.3 none
