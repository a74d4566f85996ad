-- the room so far, and how often the timers of the reactors that are left are due
use Rattle.std.proofs.Common.{◌≡◌, ◌+◌, drop, map}
use Rattle.warp_prog.specs.Limits.{total, all_due}
use Rattle.warp_prog.specs.View.{reactor_tree}
use Rattle.warp_prog.proofs.limits.timers.room_after_all.Given as goal

abbrev pub invariant-loop-reactor : goal.invariant-loop-reactor
invariant-loop-reactor l =
    l.left + total (λ r. all_due l.stop r.timers) (map reactor_tree l.reactors)
    ≡ l.room + total (λ r. all_due l.stop r.timers) (map reactor_tree (drop l.reactor-index l.reactors))
