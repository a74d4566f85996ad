use Rattle.std.proofs.Common.{sym, ◌∙◌, refl}
use Rattle.std.specs.List.{list_any}
use Rattle.std.proofs.lemmas.List.{at_drop_all}
use Rattle.warp_prog.specs.Limits.{most_exceeds, statement_mosts, body_mosts}
use Rattle.warp_prog.specs.View.{statement_tree}
use Rattle.warp_prog.specs.inner.Rule.{statements_tree}
use Rattle.warp_prog.proofs.Anys.{any_part_more}
use Rattle.warp_prog.proofs.limits.body.+turns_exceed.Goals as goal

pub turns_exceed-loop-statement-preserved : goal.turns_exceed-loop-statement-preserved
turns_exceed-loop-statement-preserved t c =
    any_part_more most_exceeds (λ s. statement_mosts (statement_tree s)) (λ ss. body_mosts (statements_tree ss)) (λ _ _. refl) _ c.loop-statement.statement-index c.statement-item.result
    c.loop-statement-test.true c.statement-item.is (sym c.statement_turns_exceed.ensures ∙ c.if-statement_turns_exceed.false)
    ∙ c.loop-statement.invariant

pub turns_exceed-returns : goal.turns_exceed-returns
turns_exceed-returns t c =
    sym (at_drop_all (λ ss. list_any most_exceeds (body_mosts (statements_tree ss))) _ c.loop-statement.statement-index c.loop-statement-test.false)
    ∙ c.loop-statement.invariant
