-- the room so far, and how often the timers that are left are due
use Rattle.std.proofs.Common.{◌≡◌, ◌+◌, drop}
use Rattle.warp_prog.specs.Limits.{all_due}
use Rattle.warp_prog.proofs.limits.timers.room_after_timers.Given as goal

abbrev pub invariant-loop-timer : goal.invariant-loop-timer
invariant-loop-timer l =
    l.left + all_due l.stop l.timers ≡ l.room + all_due l.stop (drop l.timer-index l.timers)
