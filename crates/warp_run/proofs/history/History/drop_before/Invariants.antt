use Rattle.std.proofs.Common.{◌≡◌, length}
use Rattle.warp_run.specs.Aside.{since}
use Rattle.warp_run.proofs.history.History.drop_before.Given as goal

abbrev pub invariant-loop-done : goal.invariant-loop-done
invariant-loop-done l = (l.self.width ≡ l.fn.self.width) × (since l.tag l.self.saves ≡ since l.tag l.fn.self.saves) × (l.self.room ≡ l.fn.self.room)

abbrev pub decreases-loop-done : goal.decreases-loop-done
decreases-loop-done l = length l.self.saves
