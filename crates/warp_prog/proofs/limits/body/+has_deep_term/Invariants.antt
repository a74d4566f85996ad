-- some expression in the statements that are left is too deep exactly if some of all is
use Rattle.std.proofs.Common.{◌≡◌, drop}
use Rattle.std.specs.List.{list_any}
use Rattle.warp_prog.specs.Limits.{is_too_deep, body_terms}
use Rattle.warp_prog.specs.inner.Rule.{statements_tree}
use Rattle.warp_prog.proofs.limits.body.+has_deep_term.Given as goal

abbrev pub invariant-has_deep_term-loop-statement : goal.invariant-has_deep_term-loop-statement
invariant-has_deep_term-loop-statement l =
    list_any is_too_deep (body_terms (statements_tree (drop l.statement-index l.body))) ≡ list_any is_too_deep (body_terms (statements_tree l.body))
