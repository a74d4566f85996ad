-- the statements that are left fit exactly if all do
use Rattle.std.proofs.Common.{◌≡◌, drop}
use Rattle.warp_body.specs.Effect.{statements_of, body_fits}
use Rattle.warp_body.proofs.stmt.+is_in_range_stmt.Given as goal

abbrev pub invariant-are_in_range-loop-stmt : goal.invariant-are_in_range-loop-stmt
invariant-are_in_range-loop-stmt l = body_fits l.sizes (statements_of (drop l.stmt-index l.body)) ≡ body_fits l.sizes (statements_of l.body)
