use Rattle.std.proofs.Common.{IsSome}
use Rattle.warp_arena.specs.Places.{entry_of}
use Rattle.warp_run.proofs.skips.place_back.Given as goal

abbrev pub invariant-loop-passed : goal.invariant-loop-passed
invariant-loop-passed l = IsSome (entry_of l.at l.arena.places)
