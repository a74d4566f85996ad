-- the text so far, and then the statements that are left, is the text before and all statements
use Rattle.std.proofs.Common.{◌≡◌, ◌++◌, drop, string_bytes}
use Rattle.warp_prog.specs.Canonical.{statements_text}
use Rattle.warp_prog.specs.inner.Rule.{statements_tree}
use Rattle.warp_prog.proofs.canonical.body.+spell_statement.Given as goal

abbrev pub invariant-spell_statements-loop-i : goal.invariant-spell_statements-loop-i
invariant-spell_statements-loop-i l =
    string_bytes l.text ++ statements_text l.i (statements_tree (drop l.i l.body))
    ≡ string_bytes l.fn.text ++ statements_text 0 (statements_tree l.body)
