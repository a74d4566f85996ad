use Rattle.std.proofs.Common.{◌≡◌}
use Rattle.warp_push.proofs.watchers.Watchers.want_all.Given as goal

abbrev pub invariant-loop-at : goal.invariant-loop-at
invariant-loop-at l = l.self ≡ l.initial.self
