-- what waits so far, and then behind the ways that are left, is what waits before and behind all
use Rattle.std.proofs.Common.{◌≡◌, drop, map}
use Rattle.warp_prog.specs.Waits.{tally_ways}
use Rattle.warp_prog.specs.inner.Spread.{reach_of}
use Rattle.warp_prog.proofs.explain.waits.add_route.Given as goal

abbrev pub invariant-loop-way : goal.invariant-loop-way
invariant-loop-way l =
    let rs = map reach_of l.waves in
    tally_ways l.stop rs l.route.from.items (drop l.way-index l.route.to.items) l.waits
    ≡ tally_ways l.stop rs l.route.from.items l.route.to.items l.fn.waits
