use Rattle.std.proofs.Common.{rules, FitsSigned, w64, ◌-◌, length, take, drop, sym, ◌∙◌}
use Rattle.warp_record.proofs.WordFronts.{behind_first, one_signed, text_of_one}
use Rattle.warp_record.proofs.cut.cut_last_int.Goals as goal

pub returns-in_err-number-clause-none : goal.returns-in_err-number-clause-none
returns-in_err-number-clause-none c =
    let text = c.args.text.now in
    rw c.from_residual.ensures
    (λ z fits are.
    c.in_err-number.ensures.none z fits
    (text_of_one (take (length text - 1) (drop 1 text)) _ (sym (behind_first text c.in-len1-up.len_at_least) ∙ are)))

pub returns-clause-found : goal.returns-clause-found
returns-clause-found c =
    let text = c.args.text.now in
    let fits : FitsSigned w64 c.in_ok-number.number = search rules in
    let word = one_signed (take (length text - 1) (drop 1 text)) c.in_ok-number.number fits c.in_ok-number.ensures.found in
    let behind = behind_first text c.in-len1-up.len_at_least in
    let all = behind ∙ word in
    search (rules, all, fits)
