use Rattle.std.proofs.Common.{codes, sym, ◌∙◌, true≢false}
use Rattle.warp_record.specs.inner.Behind.{words_behind}
use Rattle.warp_record.proofs.LineWords.{IfNone_then}
use Rattle.warp_record.proofs.RecordTexts.{joint_words}
use Rattle.warp_record.proofs.record_text.read_joint.Goals as goal

pub returns-then-not-has_joint-clause-none : goal.returns-then-not-has_joint-clause-none
returns-then-not-has_joint-clause-none c = λ said fits are.
    let told = joint_words c.args.form (codes "announce") (words_behind c.args.text.now) said fits are in
    true≢false (sym told.3.form_has ∙ sym c.has_joint.ensures ∙ c.if-not-has_joint.true)

pub returns-clause-none : goal.returns-clause-none
returns-clause-none c =
    IfNone_then c.joint_of.result c.joint_of.ensures.none
    (λ none said fits are.
    let told = joint_words c.args.form (codes "announce") (words_behind c.args.text.now) said fits are in
    none told.0 told.1 told.2 told.3.tag_fits told.3.events_fit told.3.withdrawn_fit told.5)
