-- some delay in the statements that are left is outside its range exactly if some of all is
use Rattle.std.proofs.Common.{◌≡◌, drop}
use Rattle.std.specs.List.{list_any}
use Rattle.warp_prog.specs.Limits.{period_exceeds, body_delays}
use Rattle.warp_prog.specs.inner.Rule.{statements_tree}
use Rattle.warp_prog.proofs.limits.body.+delay_exceeds.Given as goal

abbrev pub invariant-delay_exceeds-loop-statement : goal.invariant-delay_exceeds-loop-statement
invariant-delay_exceeds-loop-statement l =
    list_any (period_exceeds l.form) (body_delays (statements_tree (drop l.statement-index l.body))) ≡ list_any (period_exceeds l.form) (body_delays (statements_tree l.body))
