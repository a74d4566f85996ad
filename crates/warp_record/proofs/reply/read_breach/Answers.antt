use Rattle.std.proofs.Common.{arith}
use Rattle.warp_record.proofs.ReplyLemmas.{breach_words}
use Rattle.warp_record.proofs.reply.read_breach.Goals as goal

pub returns-in_err-log-clause-none : goal.returns-in_err-log-clause-none
returns-in_err-log-clause-none c =
    rw c.from_residual.ensures
    (λ reply fits are.
    let told = breach_words c.args.form c.args.number.now c.args.flag.now reply fits are in
    c.in_err-log.ensures.none told.0 (omega (arith, told.2, c.most_records.ensures)) told.3)

pub returns-in_err-broken-clause-none : goal.returns-in_err-broken-clause-none
returns-in_err-broken-clause-none c =
    rw c.from_residual-in_err-broken.ensures
    (λ reply fits are.
    let told = breach_words c.args.form c.args.number.now c.args.flag.now reply fits are in
    c.in_err-broken.ensures.none told.1 told.4)
