-- the statements before are the same
use Rattle.std.proofs.Common.{◌≡◌, map, take}
use Rattle.warp_body.specs.Effect.{statement_of}
use Rattle.warp_body.proofs.stmt.+same_stmt.Given as goal

abbrev pub invariant-same_body-loop-i : goal.invariant-same_body-loop-i
invariant-same_body-loop-i l = map statement_of (take l.i l.a) ≡ map statement_of (take l.i l.b)
