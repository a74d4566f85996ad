use Rattle.std.proofs.Common.{sym, ◌∙◌}
use Rattle.std.specs.Prelude.{nat_lt}
use Rattle.warp_prog.specs.Limits.{statement_depth, body_depth}
use Rattle.warp_prog.specs.View.{statement_tree}
use Rattle.warp_prog.specs.inner.Rule.{statements_tree}
use Rattle.warp_prog.proofs.Anys.{passed_over}
use Rattle.warp_prog.proofs.Depths.{past_greater}
use Rattle.warp_prog.proofs.limits.body.+is_deeper.Goals as goal

pub is_deeper-loop-statement-preserved : goal.is_deeper-loop-statement-preserved
is_deeper-loop-statement-preserved t c =
    passed_over (λ ss. nat_lt c.args.levels (body_depth (statements_tree ss))) (λ s. nat_lt c.args.levels (statement_depth (statement_tree s)))
    (λ s ss. past_greater c.args.levels (statement_depth (statement_tree s)) (body_depth (statements_tree ss))) _ c.loop-statement.statement-index c.statement-item.result
    c.loop-statement-test.true c.statement-item.is (sym c.is_deeper_statement.ensures ∙ c.if-is_deeper_statement.false)
    ∙ c.loop-statement.invariant
