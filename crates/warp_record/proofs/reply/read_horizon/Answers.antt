use Rattle.std.proofs.Common.{ℕ, List, [], get_or, ap, ◌∙◌, sym, arith}
use Rattle.warp_record.proofs.ReplyLemmas.{horizon_words}
use Rattle.warp_record.proofs.WordTexts.{texts, three_texts}
use Rattle.warp_record.proofs.reply.read_horizon.Goals as goal

pub returns-in_err-log-clause-none : goal.returns-in_err-log-clause-none
returns-in_err-log-clause-none c =
    rw c.from_residual.ensures
    (λ reply fits are.
    let told = horizon_words c.args.form (texts c.args.words.now) reply fits are in
    let same = sym (three_texts c.args.words.now c.in-len3.len_at_least c.in-len3.len_below) ∙ told.4 in
    c.in_err-log.ensures.none told.0 (omega (arith, told.2, c.most_records.ensures)) (ap (λ (ws : List (List ℕ)). get_or ws 0 []) same))

pub returns-in_err-tag-clause-none : goal.returns-in_err-tag-clause-none
returns-in_err-tag-clause-none c =
    rw c.from_residual-in_err-tag.ensures
    (λ reply fits are.
    let told = horizon_words c.args.form (texts c.args.words.now) reply fits are in
    let same = sym (three_texts c.args.words.now c.in-len3.len_at_least c.in-len3.len_below) ∙ told.4 in
    c.in_err-tag.ensures.none told.1 told.3 (ap (λ (ws : List (List ℕ)). get_or ws 1 []) same) (ap (λ (ws : List (List ℕ)). get_or ws 2 []) same))
