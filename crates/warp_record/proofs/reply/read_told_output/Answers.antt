use Rattle.std.proofs.Common.{ℕ, List, [], get_or, drop, ap, ◌∙◌, sym, arith}
use Rattle.warp_record.proofs.ReplyLemmas.{output_words}
use Rattle.warp_record.proofs.WordTexts.{texts, as_many, first_text}
use Rattle.warp_record.proofs.reply.read_told_output.Goals as goal

pub returns-in_default-clause-none : goal.returns-in_default-clause-none
returns-in_default-clause-none c = λ reply fits are.
    let told = output_words c.args.form (texts c.args.words.now) reply fits are in
    omega (arith, c.in_default.len_below, as_many c.args.words.now _ told.4)

pub returns-in_err-log-clause-none : goal.returns-in_err-log-clause-none
returns-in_err-log-clause-none c =
    rw c.from_residual.ensures
    (λ reply fits are.
    let told = output_words c.args.form (texts c.args.words.now) reply fits are in
    let same = sym (first_text c.args.words.now c.in-len1-up.len_at_least) ∙ told.4 in
    c.in_err-log.ensures.none told.0 (omega (arith, told.2, c.most_records.ensures)) (ap (λ (ws : List (List ℕ)). get_or ws 0 []) same))

pub returns-in_err-output-clause-none : goal.returns-in_err-output-clause-none
returns-in_err-output-clause-none c =
    rw c.from_residual-in_err-output.ensures
    (λ reply fits are.
    let told = output_words c.args.form (texts c.args.words.now) reply fits are in
    let same = sym (first_text c.args.words.now c.in-len1-up.len_at_least) ∙ told.4 in
    c.in_err-output.ensures.none told.1 told.3 (ap (λ (ws : List (List ℕ)). drop 1 ws) same))
