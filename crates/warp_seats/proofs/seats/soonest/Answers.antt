use Rattle.std.proofs.Common.{arith}
use Rattle.warp_seats.proofs.SeatLemmas.{from_never}
use Rattle.warp_seats.proofs.seats.soonest.Goals as goal

pub loop-seat-init : goal.loop-seat-init
loop-seat-init c = (from_never c.args.timeout c.args.seats.now, omega arith)
