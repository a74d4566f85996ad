use Rattle.std.proofs.Common.{◌≡◌, codes, sym, ◌∙◌, arith}
use Rattle.warp_record.proofs.ReplyLemmas.{taken_words, known_words, same_number}
use Rattle.warp_record.proofs.reply.read_short.Goals as goal

pub returns-else-number-gt0-clause-none : goal.returns-else-number-gt0-clause-none
returns-else-number-gt0-clause-none c = λ reply fits are.
    let key : c.args.word.now ≡ codes "taken" = c.is_keyword-4.ensures.0 c.if-is_keyword-4.true in
    let told = taken_words c.args.form c.args.number.now reply fits (rw key at are) in
    let read = c.in_ok-number.ensures.found in
    let same = same_number c.args.form _ _ told.1.1 (omega (arith, read.0, c.most_records.ensures)) (sym told.2 ∙ read.1) in
    omega (arith, told.1.0, same, c.if-number-gt0.false)

pub returns-else-number-gt0-2-clause-none : goal.returns-else-number-gt0-2-clause-none
returns-else-number-gt0-2-clause-none c = λ reply fits are.
    let key : c.args.word.now ≡ codes "known" = c.is_keyword-5.ensures.0 c.if-is_keyword-5.true in
    let told = known_words c.args.form c.args.number.now reply fits (rw key at are) in
    let read = c.in_ok-number.ensures.found in
    let same = same_number c.args.form _ _ told.1.1 (omega (arith, read.0, c.most_records.ensures)) (sym told.2 ∙ read.1) in
    omega (arith, told.1.0, same, c.if-number-gt0-2.false)
