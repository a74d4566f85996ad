use Rattle.std.proofs.Common.{◌≡◌, ◌++◌, drop, map, take}
use Rattle.warp_run.specs.Skips.{cut_at}
use Rattle.warp_run.proofs.skips.cut_each.Given as goal

abbrev pub invariant-loop-skip : goal.invariant-loop-skip
invariant-loop-skip l = l.skips ≡ map (cut_at l.tag l.place) (take l.skip-index l.initial.skips) ++ drop l.skip-index l.initial.skips
