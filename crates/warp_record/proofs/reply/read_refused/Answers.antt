use Rattle.std.proofs.Common.{◌∙◌, sym}
use Rattle.warp_tag.specs.Limits.{widest}
use Rattle.warp_record.proofs.ReplyLemmas.{refused_words, same_number}
use Rattle.warp_record.proofs.reply.read_refused.Goals as goal

pub returns-in_err-number-clause-none : goal.returns-in_err-number-clause-none
returns-in_err-number-clause-none c = λ f.
    rw c.from_residual.ensures
    (λ reply fits are.
    let told = refused_words f c.args.number.now reply fits are in
    c.in_err-number.ensures.none _ told.1 told.2)

pub returns-in_err-refusal-clause-none : goal.returns-in_err-refusal-clause-none
returns-in_err-refusal-clause-none c = λ f.
    rw c.from_residual-in_err-refusal.ensures
    (λ reply fits are.
    let told = refused_words f c.args.number.now reply fits are in
    let read = c.in_ok-number.ensures.found in
    c.in_err-refusal.ensures.none told.0 (same_number widest _ _ told.1 read.0 (sym told.2 ∙ read.1)))
