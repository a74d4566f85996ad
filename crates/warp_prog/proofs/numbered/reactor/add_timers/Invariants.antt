-- the timers so far are those before, and those of the reactor that have been gone over
use Rattle.std.proofs.Common.{◌≡◌, ◌++◌, map, take, unsigned_abs}
use Rattle.warp_prog.proofs.numbered.reactor.add_timers.Given as goal

abbrev pub invariant-loop-timer : goal.invariant-loop-timer
invariant-loop-timer l = l.timers.items ≡ l.fn.timers.items ++ map (λ t. record { reactor = l.before.reactors; offset = unsigned_abs t.offset; period = unsigned_abs t.period }) (take l.timer-index l.reactor.timers.items)
