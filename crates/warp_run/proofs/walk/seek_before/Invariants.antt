use Rattle.std.proofs.Common.{length}
use Rattle.warp_arena.specs.Places.{left_at}
use Rattle.warp_run.proofs.PlacesWalks.{Seeks}
use Rattle.warp_run.proofs.walk.seek_before.Given as goal

abbrev pub invariant-loop-at : goal.invariant-loop-at
invariant-loop-at l = Seeks l.arena.places (left_at l.fn.cursor l.arena.places) l.at

abbrev pub decreases-loop-at : goal.decreases-loop-at
decreases-loop-at l = length (left_at l.at l.arena.places)
