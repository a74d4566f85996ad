use Rattle.std.proofs.Common.{◌≡◌, codes, ◌∙◌, sym, true≢false, arith}
use Rattle.warp_record.proofs.LineWords.{IfNone_then}
use Rattle.warp_record.proofs.WordTexts.{text_at, as_many, four_first}
use Rattle.warp_record.proofs.LineForms.{four_words, name_words, event_operands, announcement_operands}
use Rattle.warp_record.proofs.record.read_record.Goals as goal

pub returns-in_default-clause-none : goal.returns-in_default-clause-none
returns-in_default-clause-none c = λ said fits are.
    omega (arith, c.in_default.len_below, as_many c.args.words.now _ are, four_words said)

pub returns-then-is_all-clause-none : goal.returns-then-is_all-clause-none
returns-then-is_all-clause-none c =
    IfNone_then c.read_joint.result c.read_joint.ensures.none
    (λ none said fits are.
    let star : text_at c.args.words.now 1 ≡ codes "*" = c.is_all.ensures.0 c.if-is_all.true in
    let same = sym (four_first c.args.words.now c.in-len4-up.len_at_least) ∙ are in
    none said fits (rw star at same))

pub returns-in_err-origin-clause-none : goal.returns-in_err-origin-clause-none
returns-in_err-origin-clause-none c =
    rw c.from_residual.ensures
    (λ said fits are.
    let same = sym (four_first c.args.words.now c.in-len4-up.len_at_least) ∙ are in
    let told = name_words c.args.form _ _ _ _ _ said fits same (λ star. true≢false (sym (c.is_all.ensures.1 star) ∙ c.if-is_all.false)) in
    c.in_err-origin.ensures.none told.0 (omega (arith, told.2, c.last_origin.ensures)) told.4)

pub returns-in_err-tag-clause-none : goal.returns-in_err-tag-clause-none
returns-in_err-tag-clause-none c =
    rw c.from_residual-in_err-tag.ensures
    (λ said fits are.
    let same = sym (four_first c.args.words.now c.in-len4-up.len_at_least) ∙ are in
    let told = name_words c.args.form _ _ _ _ _ said fits same (λ star. true≢false (sym (c.is_all.ensures.1 star) ∙ c.if-is_all.false)) in
    c.in_err-tag.ensures.none told.1 told.3 told.5 told.6)

pub returns-in_err-input-clause-none : goal.returns-in_err-input-clause-none
returns-in_err-input-clause-none c =
    rw c.from_residual-in_err-input.ensures
    (λ said fits are.
    let words = c.args.words.now in
    let key : text_at words 0 ≡ codes "event" = c.is_keyword.ensures.0 c.if-is_keyword.true in
    let same = sym (four_first words c.in-len4-up.len_at_least) ∙ are in
    let told = event_operands c.args.form _ _ _ _ said fits (rw key at same) in
    c.in_err-input.ensures.none told.0 told.1 told.2 told.3 told.4)

pub returns-in_err-events-clause-none : goal.returns-in_err-events-clause-none
returns-in_err-events-clause-none c =
    rw c.from_residual-in_err-events.ensures
    (λ said fits are.
    let words = c.args.words.now in
    let key : text_at words 0 ≡ codes "announce" = c.is_keyword-else-is_keyword.ensures.0 c.if-is_keyword-2.true in
    let same = sym (four_first words c.in-len4-up.len_at_least) ∙ are in
    let told = announcement_operands c.args.form _ _ _ _ said fits (rw key at same) (λ star. true≢false (sym (c.is_all.ensures.1 star) ∙ c.if-is_all.false)) in
    c.in_err-events.ensures.none told.0 told.1 told.2 told.3 told.4)
