-- the longest so far, and then of the statements that are left, is that of all
use Rattle.std.proofs.Common.{◌≡◌, drop}
use Rattle.warp_body.specs.Effect.{statements_of}
use Rattle.warp_prog.specs.Waits.{longest_in}
use Rattle.warp_prog.proofs.explain.routes.+longest_in.Given as goal

abbrev pub invariant-longest_in-loop-statement : goal.invariant-longest_in-loop-statement
invariant-longest_in-loop-statement l =
    longest_in l.action (statements_of (drop l.statement-index l.body)) l.longest ≡ longest_in l.action (statements_of l.body) l.fn.found
