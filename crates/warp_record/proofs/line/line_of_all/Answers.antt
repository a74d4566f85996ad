use Rattle.std.proofs.Common.{◌≡◌, ◌∷◌, [], codes, List, ℕ, ap, sym, ◌∙◌, true≢false}
use Rattle.warp_record.proofs.LineForms.{all_asked}
use Rattle.warp_record.proofs.line.line_of_all.Goals as goal

pub returns-then-not-has_joint-clause-none : goal.returns-then-not-has_joint-clause-none
returns-then-not-has_joint-clause-none c = λ line fits are.
    let told = all_asked c.args.form c.args.word.now line fits are in
    true≢false (sym told.1 ∙ sym c.has_joint.ensures ∙ c.if-not-has_joint.true)

pub returns-then-not-is_keyword-clause-none : goal.returns-then-not-is_keyword-clause-none
returns-then-not-is_keyword-clause-none c = λ line fits are.
    let told = all_asked c.args.form c.args.word.now line fits are in
    true≢false (sym (c.is_keyword.ensures.1 told.0) ∙ c.if-not-is_keyword.true)

pub returns-clause-found : goal.returns-clause-found
returns-clause-found c =
    let key : c.args.word.now ≡ codes "breach" = c.is_keyword.ensures.0 c.if-not-is_keyword.false in
    (sym c.has_joint.ensures ∙ c.if-not-has_joint.false, ap (λ (word : List ℕ). word ∷ codes "*" ∷ []) key)
