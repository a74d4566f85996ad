use Rattle.std.proofs.Common.{ℕ, List, [], get_or, ap, ◌∙◌, sym, arith}
use Rattle.warp_record.proofs.WordTexts.{as_many, two_texts}
use Rattle.warp_record.proofs.record.read_value.Goals as goal

pub returns-in_default-clause-none : goal.returns-in_default-clause-none
returns-in_default-clause-none c = λ input value input_fits value_fits are.
    omega (arith, c.in_default.len_below, as_many c.args.words.now _ are)

pub returns-in_default-2-clause-none : goal.returns-in_default-2-clause-none
returns-in_default-2-clause-none c = λ input value input_fits value_fits are.
    omega (arith, c.in_default.len_at_least, as_many c.args.words.now _ are)

pub returns-in_err-input-clause-none : goal.returns-in_err-input-clause-none
returns-in_err-input-clause-none c =
    rw c.from_residual.ensures
    (λ input value input_fits value_fits are.
    let same = sym (two_texts c.args.words.now c.in-len2.len_at_least c.in-len2.len_below) ∙ are in
    c.in_err-input.ensures.none input (omega (arith, input_fits)) (ap (λ (ws : List (List ℕ)). get_or ws 0 []) same))

pub returns-in_err-value-clause-none : goal.returns-in_err-value-clause-none
returns-in_err-value-clause-none c =
    rw c.from_residual-in_err-value.ensures
    (λ input value input_fits value_fits are.
    let same = sym (two_texts c.args.words.now c.in-len2.len_at_least c.in-len2.len_below) ∙ are in
    c.in_err-value.ensures.none value value_fits (ap (λ (ws : List (List ℕ)). get_or ws 1 []) same))
