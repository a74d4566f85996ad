-- Nothing that is seen changes.
use Rattle.std.proofs.Common.{◌≡◌}
use Rattle.warp_push.proofs.groups.Groups.due_within.Given as goal

abbrev pub invariant-loop-at : goal.invariant-loop-at
invariant-loop-at l = l.self ≡ l.initial.self
