use Rattle.std.proofs.Common.{arith}
use Rattle.warp_record.proofs.ReplyLemmas.{var_words}
use Rattle.warp_record.proofs.reply.read_var.Goals as goal

pub returns-in_err-log-clause-none : goal.returns-in_err-log-clause-none
returns-in_err-log-clause-none c =
    rw c.from_residual.ensures
    (λ reply fits are.
    let told = var_words c.args.form c.args.number.now c.args.value.now reply fits are in
    c.in_err-log.ensures.none told.0 (omega (arith, told.2, c.most_records.ensures)) told.4)

pub returns-in_err-value-clause-none : goal.returns-in_err-value-clause-none
returns-in_err-value-clause-none c =
    rw c.from_residual-in_err-value.ensures
    (λ reply fits are.
    let told = var_words c.args.form c.args.number.now c.args.value.now reply fits are in
    c.in_err-value.ensures.none told.1 told.3 told.5)
