use Rattle.std.proofs.Common.{length}
use Rattle.warp_arena.proofs.Freeing.{Freed}
use Rattle.warp_arena.proofs.arena.Arena.free_through.Given as goal

abbrev pub invariant-loop-first : goal.invariant-loop-first
invariant-loop-first l = Freed l.tag l.initial.self l.self

abbrev pub decreases-loop-first : goal.decreases-loop-first
decreases-loop-first l = length l.self.places
