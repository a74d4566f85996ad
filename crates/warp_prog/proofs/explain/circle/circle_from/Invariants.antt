-- proofs/explain/circle/circle_from/Invariants.antt
-- the reactions so far wait in turn for the last
use Rattle.std.proofs.Common.{map}
use Rattle.warp_prog.specs.inner.Placing.{numbers_of, awaits}
use Rattle.warp_prog.proofs.CircleLemmas.{IsWalk}
use Rattle.warp_prog.proofs.explain.circle.circle_from.Given as goal

abbrev pub invariant-loop-step : goal.invariant-loop-step
invariant-loop-step l = IsWalk (awaits (map numbers_of l.before)) l.circle.items l.first l.last
