use Rattle.std.proofs.Common.{arith}
use Rattle.warp_record.proofs.ReplyLemmas.{board_words}
use Rattle.warp_record.proofs.reply.read_board.Goals as goal

pub returns-in_err-count-clause-none : goal.returns-in_err-count-clause-none
returns-in_err-count-clause-none c =
    rw c.from_residual.ensures
    (λ reply fits are.
    let told = board_words c.args.form c.args.number.now c.args.flag.now reply fits are in
    c.in_err-count.ensures.none told.0 (omega (arith, told.2, c.most_rows.ensures)) told.3)

pub returns-in_err-frozen-clause-none : goal.returns-in_err-frozen-clause-none
returns-in_err-frozen-clause-none c =
    rw c.from_residual-in_err-frozen.ensures
    (λ reply fits are.
    let told = board_words c.args.form c.args.number.now c.args.flag.now reply fits are in
    c.in_err-frozen.ensures.none told.1 told.4)
