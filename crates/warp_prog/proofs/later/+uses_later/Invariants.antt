-- a word of version 4 stands in the statements that are left exactly if it stands in all
use Rattle.std.proofs.Common.{◌≡◌, drop}
use Rattle.warp_prog.specs.Later.{body_uses_later}
use Rattle.warp_prog.specs.inner.Rule.{statements_tree}
use Rattle.warp_prog.proofs.later.+uses_later.Given as goal

abbrev pub invariant-body_uses_later-loop-statement : goal.invariant-body_uses_later-loop-statement
invariant-body_uses_later-loop-statement l =
    body_uses_later (statements_tree (drop l.statement-index l.body)) ≡ body_uses_later (statements_tree l.body)
