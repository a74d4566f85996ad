use Rattle.std.proofs.Common.{drop}
use Rattle.warp_arena.specs.Places.{Reaches}
use Rattle.warp_cases.proofs.arenas.walk.Given as goal

abbrev pub invariant-loop : goal.invariant-loop
invariant-loop l = Reaches l.arena.places (drop l.counter l.arena.places) l.at
