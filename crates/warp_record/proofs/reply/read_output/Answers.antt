use Rattle.std.proofs.Common.{ℕ, List, [], get_or, ap, ◌∙◌, sym, arith}
use Rattle.warp_record.proofs.WordTexts.{four_texts}
use Rattle.warp_record.proofs.reply.read_output.Goals as goal

pub returns-in_err-tag-clause-none : goal.returns-in_err-tag-clause-none
returns-in_err-tag-clause-none c =
    rw c.from_residual.ensures
    (λ out fits are.
    let same = sym (four_texts c.args.words.now c.in-len4.len_at_least c.in-len4.len_below) ∙ are in
    c.in_err-tag.ensures.none out.tag fits.tag_fits (ap (λ (ws : List (List ℕ)). get_or ws 0 []) same) (ap (λ (ws : List (List ℕ)). get_or ws 1 []) same))

pub returns-in_err-port-clause-none : goal.returns-in_err-port-clause-none
returns-in_err-port-clause-none c =
    rw c.from_residual-in_err-port.ensures
    (λ out fits are.
    let same = sym (four_texts c.args.words.now c.in-len4.len_at_least c.in-len4.len_below) ∙ are in
    c.in_err-port.ensures.none out.port (omega (arith, fits.port_fits)) (ap (λ (ws : List (List ℕ)). get_or ws 2 []) same))

pub returns-in_err-value-clause-none : goal.returns-in_err-value-clause-none
returns-in_err-value-clause-none c =
    rw c.from_residual-in_err-value.ensures
    (λ out fits are.
    let same = sym (four_texts c.args.words.now c.in-len4.len_at_least c.in-len4.len_below) ∙ are in
    c.in_err-value.ensures.none out.value fits.value_fits (ap (λ (ws : List (List ℕ)). get_or ws 3 []) same))
