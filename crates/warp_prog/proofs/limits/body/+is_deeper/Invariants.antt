-- the statements that are left are deeper exactly if all are
use Rattle.std.proofs.Common.{◌≡◌, drop}
use Rattle.std.specs.Prelude.{nat_lt}
use Rattle.warp_prog.specs.Limits.{body_depth}
use Rattle.warp_prog.specs.inner.Rule.{statements_tree}
use Rattle.warp_prog.proofs.limits.body.+is_deeper.Given as goal

abbrev pub invariant-is_deeper-loop-statement : goal.invariant-is_deeper-loop-statement
invariant-is_deeper-loop-statement l =
    nat_lt l.levels (body_depth (statements_tree (drop l.statement-index l.body))) ≡ nat_lt l.levels (body_depth (statements_tree l.body))
