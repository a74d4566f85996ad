use Rattle.std.proofs.Common.{not, sym, ◌∙◌, refl}
use Rattle.std.specs.List.{list_any}
use Rattle.std.proofs.lemmas.List.{at_drop_all}
use Rattle.warp_prog.specs.Uses.{statement_uses, body_uses}
use Rattle.warp_prog.specs.View.{statement_tree}
use Rattle.warp_prog.specs.inner.Rule.{meets, in_role, statements_tree}
use Rattle.warp_prog.proofs.Anys.{any_part_more}
use Rattle.warp_prog.proofs.uses.+breaks.Goals as goal

pub breaks-loop-i-preserved : goal.breaks-loop-i-preserved
breaks-loop-i-preserved t c =
    any_part_more (λ u. not (in_role (λ p name. meets c.args.rule.now p name) u)) (λ s. statement_uses (statement_tree s)) (λ ss. body_uses (statements_tree ss)) (λ _ _. refl) _ c.loop-i.i c.index-body-i.result
    c.loop-i-test.true c.index-body-i.is (sym c.statement_breaks.ensures ∙ c.if-statement_breaks.false)
    ∙ c.loop-i.invariant

pub breaks-returns : goal.breaks-returns
breaks-returns t c =
    sym (at_drop_all (λ ss. list_any (λ u. not (in_role (λ p name. meets c.args.rule.now p name) u)) (body_uses (statements_tree ss))) _ c.loop-i.i c.loop-i-test.false)
    ∙ c.loop-i.invariant
