-- some use in the statements that are left breaks the rule exactly if some use in all does
use Rattle.std.proofs.Common.{◌≡◌, drop}
use Rattle.warp_prog.specs.Uses.{body_uses}
use Rattle.warp_prog.specs.inner.Rule.{breaks, statements_tree}
use Rattle.warp_prog.proofs.uses.+breaks.Given as goal

abbrev pub invariant-breaks-loop-i : goal.invariant-breaks-loop-i
invariant-breaks-loop-i l =
    breaks l.rule (body_uses (statements_tree (drop l.i l.body))) ≡ breaks l.rule (body_uses (statements_tree l.body))
