-- the room so far, and how many the reactors that are left have
use Rattle.std.proofs.Common.{◌≡◌, ◌+◌, drop, map}
use Rattle.warp_prog.specs.Limits.{total}
use Rattle.warp_prog.specs.View.{reactor_tree}
use Rattle.warp_prog.specs.inner.Things.{count_of}
use Rattle.warp_prog.proofs.limits.room_after_all.Given as goal

abbrev pub invariant-loop-reactor : goal.invariant-loop-reactor
invariant-loop-reactor l =
    l.left + total (count_of l.kind) (map reactor_tree l.reactors) ≡ l.room + total (count_of l.kind) (map reactor_tree (drop l.reactor-index l.reactors))
