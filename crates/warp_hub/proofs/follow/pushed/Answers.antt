-- A push tells one place.
use Rattle.std.proofs.Common.{◌≡◌, ◌∙◌, ap, drop}
use Rattle.warp_record.specs.Reply.{reply_spelling}
use Rattle.warp_record.specs.declared.reply.Reply.TheVariants.{Log}
use Rattle.warp_hub.proofs.OneLog.{one_log}
use Rattle.warp_hub.proofs.follow.pushed.Goals as goal

pub returns-then-log-place-clause-none : goal.returns-then-log-place-clause-none
returns-then-log-place-clause-none c = λ said tells.
    let found = c.in_ok-log.ensures.found in
    let spells : c.in_ok-reply.reply.now ≡ reply_spelling (Log c.args.place said) = c.in_ok-reply.ensures.cases.1 ∙ ap (drop 2) tells.1 in
    let e : Log c.in_ok-log.log c.in_ok-log.said ≡ Log c.args.place said =
    one_log c.one_reply_spelling.ensures c.wider_line.ensures.replies c.args.form c.in_ok-reply.reply.now (Log c.in_ok-log.log c.in_ok-log.said) c.args.place said
    found.0 found.1 tells.0 spells in
    let same : c.in_ok-log.log ≡ c.args.place = cc (e) in
    c.if-log-place.true same
