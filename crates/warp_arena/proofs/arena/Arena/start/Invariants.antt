use Rattle.std.proofs.Common.{◌≡◌, replicate}
use Rattle.warp_arena.specs.Shape.{no_origin}
use Rattle.warp_arena.proofs.arena.Arena.start.Given as goal

abbrev pub invariant-loop : goal.invariant-loop
invariant-loop l = l.by_origin.items ≡ replicate l.counter no_origin
