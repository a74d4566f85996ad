-- what is marked so far, and where it leads in the steps that are left, is what is reached
use Rattle.std.proofs.Common.{◌≡◌, ◌-◌, map}
use Rattle.warp_prog.specs.Waits.{target_places, passage_of}
use Rattle.warp_prog.specs.inner.Spread.{further, spread}
use Rattle.warp_prog.proofs.explain.waits.reached.Given as goal

abbrev pub invariant-loop-step : goal.invariant-loop-step
invariant-loop-step l =
    let ps = map passage_of l.routes in
    further ps (target_places - l._step) l.marks.items ≡ spread ps l.start
