-- some timer that is left is due exactly if some timer is
use Rattle.std.proofs.Common.{◌≡◌, drop}
use Rattle.std.specs.List.{list_any}
use Rattle.warp_prog.specs.OwnRows.{is_due}
use Rattle.warp_prog.proofs.due.any_is_due.Given as goal

abbrev pub invariant-loop-timer : goal.invariant-loop-timer
invariant-loop-timer l = list_any (is_due l.time) (drop l.timer-index l.timers) ≡ list_any (is_due l.time) l.timers
