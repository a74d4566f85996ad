-- what waits so far, and then behind the routes that are left, is what waits behind all
use Rattle.std.proofs.Common.{◌≡◌, drop, map}
use Rattle.warp_prog.specs.Waits.{nothing, passage_of, tally_all}
use Rattle.warp_prog.specs.inner.Spread.{reach_of}
use Rattle.warp_prog.proofs.explain.waits.tally_all.Given as goal

abbrev pub invariant-loop-route : goal.invariant-loop-route
invariant-loop-route l =
    tally_all l.stop (map reach_of l.waves) (map passage_of (drop l.route-index l.routes)) l.waits
    ≡ tally_all l.stop (map reach_of l.waves) (map passage_of l.routes) nothing
