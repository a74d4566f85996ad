use Rattle.std.proofs.Common.{◌≡◌, ◌≤◌, min, drop}
use Rattle.warp_service.specs.Contact.{never}
use Rattle.warp_service.specs.Timers.{earliest}
use Rattle.warp_service.proofs.timers.earliest.Given as goal

abbrev pub invariant-loop-moment : goal.invariant-loop-moment
invariant-loop-moment l = (min l.first (earliest (drop l.moment-index l.moments)) ≡ earliest l.moments) × (l.first ≤ never)
