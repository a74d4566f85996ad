-- the statements so far are copied
use Rattle.std.proofs.Common.{◌≡◌, map, take}
use Rattle.warp_body.specs.Effect.{statement_of}
use Rattle.warp_body.proofs.stmt.+copy_stmt.Given as goal

abbrev pub invariant-copy_body-loop-stmt : goal.invariant-copy_body-loop-stmt
invariant-copy_body-loop-stmt l = map statement_of l.copy.items ≡ map statement_of (take l.stmt-index l.body)
