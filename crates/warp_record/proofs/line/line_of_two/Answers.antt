use Rattle.std.proofs.Common.{◌≡◌, ◌∷◌, [], codes, List, ℕ, ap, sym, ◌∙◌, true≢false}
use Rattle.std.proofs.lemmas.Option.{IfSome_then}
use Rattle.warp_record.proofs.LineForms.{line_number}
use Rattle.warp_record.proofs.LineWords.{IfNone_then}
use Rattle.warp_record.proofs.line.line_of_two.Goals as goal

pub returns-then-is_all-clause-found : goal.returns-then-is_all-clause-found
returns-then-is_all-clause-found c =
    let star : c.args.other.now ≡ codes "*" = c.is_all.ensures.0 c.if-is_all.true in
    IfSome_then c.line_of_all.result c.line_of_all.ensures.found
    (λ line is. (is.0, ap (λ (word : List ℕ). c.args.word.now ∷ word ∷ []) star ∙ is.1))

pub returns-then-is_all-clause-none : goal.returns-then-is_all-clause-none
returns-then-is_all-clause-none c =
    let star : c.args.other.now ≡ codes "*" = c.is_all.ensures.0 c.if-is_all.true in
    IfNone_then c.line_of_all.result c.line_of_all.ensures.none
    (λ none line fits are. none line fits (sym (ap (λ (word : List ℕ). c.args.word.now ∷ word ∷ []) star) ∙ are))

pub returns-in_err-number-clause-none : goal.returns-in_err-number-clause-none
returns-in_err-number-clause-none c =
    rw c.from_residual.ensures
    (λ line fits are.
    let told = line_number c.args.form c.args.word.now c.args.other.now line fits are (λ star. true≢false (sym (c.is_all.ensures.1 star) ∙ c.if-is_all.false)) in
    c.in_err-number.ensures.none told.0 told.1 told.2)

pub returns-clause-found : goal.returns-clause-found
returns-clause-found c =
    IfSome_then c.line_of_number.result c.line_of_number.ensures.found
    (λ line is. (is.0, ap (λ (word : List ℕ). c.args.word.now ∷ word ∷ []) c.in_ok-number.ensures.found.1 ∙ is.1))

pub returns-clause-none : goal.returns-clause-none
returns-clause-none c =
    IfNone_then c.line_of_number.result c.line_of_number.ensures.none
    (λ none line fits are. none line fits (sym (ap (λ (word : List ℕ). c.args.word.now ∷ word ∷ []) c.in_ok-number.ensures.found.1) ∙ are))
