use Rattle.std.proofs.Common.{rules, drop, arith}
use Rattle.std.proofs.lemmas.List.{drop_all}
use Rattle.warp_service.proofs.TimerLemmas.{at_end, from_never}
use Rattle.warp_service.proofs.timers.earliest.Goals as goal

pub loop-moment-init : goal.loop-moment-init
loop-moment-init c = (from_never c.args.moments.now, omega arith)

pub returns : goal.returns
returns c =
    at_end c.loop-moment.first (drop c.loop-moment.moment-index c.args.moments.now) c.args.moments.now c.loop-moment.invariant.1
    (drop_all c.loop-moment.moment-index c.args.moments.now (search rules))
    c.loop-moment.invariant.0
