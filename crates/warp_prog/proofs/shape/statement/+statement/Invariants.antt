use Rattle.std.proofs.Common.{◌≡◌, drop, map}
use Rattle.serde_json.specs.View.{items_view}
use Rattle.warp_prog.specs.Statements.{statements_of}
use Rattle.warp_prog.specs.View.{statement_tree}
use Rattle.warp_prog.proofs.StatementLemmas.{and_then}
use Rattle.warp_prog.proofs.shape.statement.+statement.Given as goal

abbrev pub invariant-statements-loop-item : goal.invariant-statements-loop-item
invariant-statements-loop-item l = and_then (map statement_tree l.found.items) (statements_of (items_view (drop l.item-index l.items))) ≡ statements_of (items_view l.items)
