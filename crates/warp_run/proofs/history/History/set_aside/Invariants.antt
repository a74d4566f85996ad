use Rattle.std.proofs.Common.{◌≡◌, length, []}
use Rattle.warp_run.specs.Aside.{set_aside}
use Rattle.warp_run.specs.History.{before}
use Rattle.warp_run.proofs.history.History.set_aside.Given as goal

abbrev pub invariant-loop-newest : goal.invariant-loop-newest
invariant-loop-newest l =
    (l.self.width ≡ l.fn.self.width) × (l.aside.width ≡ l.fn.aside.width)
    × (before l.tag l.self.saves ≡ before l.tag l.fn.self.saves)
    × (set_aside l.tag l.self.saves l.aside.saves ≡ set_aside l.tag l.fn.self.saves [])
    × (l.self.room ≡ l.fn.self.room) × (l.aside.room ≡ l.fn.aside.room)

abbrev pub decreases-loop-newest : goal.decreases-loop-newest
decreases-loop-newest l = length l.self.saves
