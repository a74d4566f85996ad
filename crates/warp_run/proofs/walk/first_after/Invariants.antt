use Rattle.std.proofs.Common.{◌-◌, length}
use Rattle.warp_arena.specs.Places.{places_from}
use Rattle.warp_run.proofs.PlacesBack.{IsBeyond}
use Rattle.warp_run.proofs.walk.first_after.Given as goal

abbrev pub invariant-loop-before : goal.invariant-loop-before
invariant-loop-before l = IsBeyond l.last l.at l.arena.places

abbrev pub decreases-loop-before : goal.decreases-loop-before
decreases-loop-before l = length l.arena.places - length (places_from l.at l.arena.places)
