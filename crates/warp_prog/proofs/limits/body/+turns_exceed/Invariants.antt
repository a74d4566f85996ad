-- some loop in the statements that are left may turn too often or never exactly if some of all may
use Rattle.std.proofs.Common.{◌≡◌, drop}
use Rattle.std.specs.List.{list_any}
use Rattle.warp_prog.specs.Limits.{most_exceeds, body_mosts}
use Rattle.warp_prog.specs.inner.Rule.{statements_tree}
use Rattle.warp_prog.proofs.limits.body.+turns_exceed.Given as goal

abbrev pub invariant-turns_exceed-loop-statement : goal.invariant-turns_exceed-loop-statement
invariant-turns_exceed-loop-statement l =
    list_any most_exceeds (body_mosts (statements_tree (drop l.statement-index l.body))) ≡ list_any most_exceeds (body_mosts (statements_tree l.body))
