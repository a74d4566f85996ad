-- what is marked so far, and then by the routes that are left, is what is marked by all
use Rattle.std.proofs.Common.{◌≡◌, drop, map}
use Rattle.warp_prog.specs.Waits.{passage_of}
use Rattle.warp_prog.specs.inner.Spread.{led}
use Rattle.warp_prog.proofs.explain.waits.led.Given as goal

abbrev pub invariant-loop-route : goal.invariant-loop-route
invariant-loop-route l =
    led (map passage_of (drop l.route-index l.routes)) l.before l.marks.items ≡ led (map passage_of l.routes) l.before l.before
