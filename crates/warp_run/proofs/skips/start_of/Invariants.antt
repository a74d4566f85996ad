use Rattle.std.proofs.Common.{◌≡◌, IsSomeAnd, Some, true}
use Rattle.warp_arena.specs.Places.{entry_of}
use Rattle.warp_step.specs.Run.{is_after}
use Rattle.warp_run.proofs.skips.start_of.Given as goal

abbrev pub invariant-loop-skip : goal.invariant-loop-skip
invariant-loop-skip l = IsSomeAnd (entry_of l.start l.arena.places) (λ e. is_after (Some l.last) e.tag ≡ true)
