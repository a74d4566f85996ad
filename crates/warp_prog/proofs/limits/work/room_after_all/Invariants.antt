-- the room so far, and the work of the reactors that are left
use Rattle.std.proofs.Common.{◌≡◌, ◌+◌, drop, map}
use Rattle.warp_prog.specs.Limits.{total}
use Rattle.warp_prog.specs.View.{reactor_tree}
use Rattle.warp_prog.specs.Work.{reactor_work}
use Rattle.warp_prog.proofs.limits.work.room_after_all.Given as goal

abbrev pub invariant-loop-reactor : goal.invariant-loop-reactor
invariant-loop-reactor l =
    l.left + total reactor_work (map reactor_tree l.reactors) ≡ l.room + total reactor_work (map reactor_tree (drop l.reactor-index l.reactors))
