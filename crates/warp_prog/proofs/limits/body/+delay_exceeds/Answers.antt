use Rattle.std.proofs.Common.{sym, ◌∙◌, refl}
use Rattle.std.specs.List.{list_any}
use Rattle.std.proofs.lemmas.List.{at_drop_all}
use Rattle.warp_prog.specs.Limits.{period_exceeds, statement_delays, body_delays}
use Rattle.warp_prog.specs.View.{statement_tree}
use Rattle.warp_prog.specs.inner.Rule.{statements_tree}
use Rattle.warp_prog.proofs.Anys.{any_part_more}
use Rattle.warp_prog.proofs.limits.body.+delay_exceeds.Goals as goal

pub delay_exceeds-loop-statement-preserved : goal.delay_exceeds-loop-statement-preserved
delay_exceeds-loop-statement-preserved t c =
    any_part_more (period_exceeds c.args.form) (λ s. statement_delays (statement_tree s)) (λ ss. body_delays (statements_tree ss)) (λ _ _. refl) _ c.loop-statement.statement-index c.statement-item.result
    c.loop-statement-test.true c.statement-item.is (sym c.statement_delay_exceeds.ensures ∙ c.if-statement_delay_exceeds.false)
    ∙ c.loop-statement.invariant

pub delay_exceeds-returns : goal.delay_exceeds-returns
delay_exceeds-returns t c =
    sym (at_drop_all (λ ss. list_any (period_exceeds c.args.form) (body_delays (statements_tree ss))) _ c.loop-statement.statement-index c.loop-statement-test.false)
    ∙ c.loop-statement.invariant
