-- What tells a record is read as that.
use Rattle.warp_record.specs.declared.reply.Reply.TheVariants.{Log}
use Rattle.warp_hub.proofs.OneLog.{one_log}
use Rattle.warp_hub.proofs.follow.log_reply.Goals as goal

pub returns-in_default-clause-none : goal.returns-in_default-clause-none
returns-in_default-clause-none c = λ log said range spells. c.in_default.ensures.none (Log log said) range spells

pub returns-in_default-told_by-clause-none : goal.returns-in_default-told_by-clause-none
returns-in_default-told_by-clause-none c = λ log said range spells.
    let found = c.in-Some.ensures.found in
    c.in_default-told_by.ensures.none log said
    (one_log c.one_reply_spelling.ensures c.wider_line.ensures.replies c.args.form c.args.bytes.now c.in-Some.reply log said found.0 found.1 range spells)
