use Rattle.warp_record.proofs.ReplyLemmas.{row_words}
use Rattle.warp_record.proofs.WordTexts.{texts}
use Rattle.warp_record.proofs.reply.read_row.Goals as goal

pub returns-in_err-output-clause-none : goal.returns-in_err-output-clause-none
returns-in_err-output-clause-none c =
    rw c.from_residual.ensures
    (λ reply fits are.
    let told = row_words c.args.form (texts c.args.words.now) reply fits are in
    c.in_err-output.ensures.none told.0 told.1 told.2)
