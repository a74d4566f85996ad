-- the timers so far, and then those that are left, are all
use Rattle.std.proofs.Common.{◌≡◌, ◌++◌, drop, map}
use Rattle.warp_prog.specs.Waits.{passage_of, reaches_of}
use Rattle.warp_prog.specs.inner.Spread.{reach_of}
use Rattle.warp_prog.proofs.explain.waits.waves.Given as goal

abbrev pub invariant-loop-i : goal.invariant-loop-i
invariant-loop-i l =
    let ps = map passage_of l.routes in
    map reach_of l.waves.items ++ reaches_of ps l.i (drop l.i l.timers) ≡ reaches_of ps 0 l.timers
