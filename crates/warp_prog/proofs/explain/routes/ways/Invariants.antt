-- the ways so far, and then those to the targets that are left, are those to all
use Rattle.std.proofs.Common.{◌≡◌, ◌++◌, drop}
use Rattle.warp_body.specs.Effect.{statements_of}
use Rattle.warp_prog.specs.Waits.{all_ways}
use Rattle.warp_prog.proofs.explain.routes.ways.Given as goal

abbrev pub invariant-loop-target : goal.invariant-loop-target
invariant-loop-target l =
    l.ways.items ++ all_ways l.actions (statements_of l.body) (drop l.target-index l.writes)
    ≡ all_ways l.actions (statements_of l.body) l.writes
