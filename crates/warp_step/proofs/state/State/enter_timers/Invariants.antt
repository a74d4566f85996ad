-- the timers that are left come in as all do at the start
use Rattle.std.proofs.Common.{◌≡◌, drop}
use Rattle.warp_step.specs.Snapshot.{with_timers}
use Rattle.warp_step.proofs.state.State.enter_timers.Given as goal

abbrev pub invariant-loop-number : goal.invariant-loop-number
invariant-loop-number l =
    with_timers l.program.stop l.number (drop l.number l.timer-items) l.self
    ≡ with_timers l.program.stop 0 l.program.timers l.fn.self
