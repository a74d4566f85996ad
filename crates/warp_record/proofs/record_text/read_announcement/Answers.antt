use Rattle.warp_record.specs.inner.Behind.{words_behind}
use Rattle.warp_record.proofs.LineWords.{IfNone_then}
use Rattle.warp_record.proofs.RecordTexts.{announcement_words}
use Rattle.warp_record.proofs.record_text.read_announcement.Goals as goal

pub returns-clause-none : goal.returns-clause-none
returns-clause-none c =
    IfNone_then c.read_own.result c.read_own.ensures.none
    (λ none said fits are.
    let told = announcement_words c.args.form (words_behind c.args.text.now) said fits are c.in_default.ensures.none in
    none told.0 told.1 told.2 told.3 told.4 told.5)
