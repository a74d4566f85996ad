use Rattle.std.proofs.Common.{◌≡◌}
use Rattle.warp_cases.proofs.arenas.make_calls.Given as goal

abbrev pub invariant-loop-line : goal.invariant-loop-line
invariant-loop-line l = l.arena.origins ≡ 3
