use Rattle.std.proofs.Common.{sym, ◌∙◌, refl}
use Rattle.std.specs.List.{list_any}
use Rattle.std.proofs.lemmas.List.{at_drop_all}
use Rattle.warp_prog.specs.Limits.{is_too_deep, statement_terms, body_terms}
use Rattle.warp_prog.specs.View.{statement_tree}
use Rattle.warp_prog.specs.inner.Rule.{statements_tree}
use Rattle.warp_prog.proofs.Anys.{any_part_more}
use Rattle.warp_prog.proofs.limits.body.+has_deep_term.Goals as goal

pub has_deep_term-loop-statement-preserved : goal.has_deep_term-loop-statement-preserved
has_deep_term-loop-statement-preserved t c =
    any_part_more is_too_deep (λ s. statement_terms (statement_tree s)) (λ ss. body_terms (statements_tree ss)) (λ _ _. refl) _ c.loop-statement.statement-index c.statement-item.result
    c.loop-statement-test.true c.statement-item.is (sym c.statement_has_deep_term.ensures ∙ c.if-statement_has_deep_term.false)
    ∙ c.loop-statement.invariant

pub has_deep_term-returns : goal.has_deep_term-returns
has_deep_term-returns t c =
    sym (at_drop_all (λ ss. list_any is_too_deep (body_terms (statements_tree ss))) _ c.loop-statement.statement-index c.loop-statement-test.false)
    ∙ c.loop-statement.invariant
