-- A reply tells the length of one log.
use Rattle.std.proofs.Common.{◌≡◌, arith}
use Rattle.warp_record.specs.declared.reply.Reply.TheVariants.{Log}
use Rattle.warp_hub.proofs.OneLog.{one_log}
use Rattle.warp_hub.proofs.follow.answered.Goals as goal

pub returns-then-log-place-clause-none : goal.returns-then-log-place-clause-none
returns-then-log-place-clause-none c = λ said tells.
    let found = c.in_ok-log.ensures.found in
    let e : Log c.in_ok-log.log c.in_ok-log.said ≡ Log tells.0 said =
    one_log c.one_reply_spelling.ensures c.wider_line.ensures.replies c.args.form c.args.line.now (Log c.in_ok-log.log c.in_ok-log.said) tells.0 said
    found.0 found.1 tells.1 tells.3 in
    let same : c.in_ok-log.log ≡ tells.0 = cc (e) in
    absurd (omega (arith, same, tells.2, c.if-log-place.true))
