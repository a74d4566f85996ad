use Rattle.std.proofs.Common.{◌∙◌, sym}
use Rattle.std.proofs.lemmas.Bool.{true≢false}
use Rattle.warp_machine.proofs.OperatorWords.{none_of}
use Rattle.warp_machine.proofs.operating.read_operator.Goals as goal

pub returns-clause-none : goal.returns-clause-none
returns-clause-none c =
    none_of c.args.line.now
    (λ is. true≢false (sym (c.is_keyword.ensures.1 is) ∙ c.if-is_keyword.false))
    (λ is. true≢false (sym (c.is_keyword-2.ensures.1 is) ∙ c.if-is_keyword-2.false))
    (λ is. true≢false (sym (c.is_keyword-3.ensures.1 is) ∙ c.if-is_keyword-3.false))
    (λ is. true≢false (sym (c.is_keyword-4.ensures.1 is) ∙ c.if-is_keyword-4.false))
    (λ is. true≢false (sym (c.is_keyword-5.ensures.1 is) ∙ c.if-is_keyword-5.false))
    (λ is. true≢false (sym (c.is_keyword-6.ensures.1 is) ∙ c.if-is_keyword-6.false))
