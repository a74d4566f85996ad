use Rattle.std.proofs.Common.{◌≡◌, length}
use Rattle.warp_run.specs.History.{before}
use Rattle.warp_run.proofs.history.History.drop_from.Given as goal

-- those from the newest one before the tag on stay
abbrev pub invariant-loop-done : goal.invariant-loop-done
invariant-loop-done l = (l.self.width ≡ l.initial.self.width) × (before l.tag l.self.saves ≡ before l.tag l.initial.self.saves) × (l.self.room ≡ l.initial.self.room)

abbrev pub decreases-loop-done : goal.decreases-loop-done
decreases-loop-done l = length l.self.saves
