use Rattle.std.proofs.Common.{refl, arith}
use Rattle.warp_room.proofs.Waiting.{head_of}
use Rattle.warp_room.proofs.queues.Seat.first.Goals as goal

pub returns-clause-some : goal.returns-clause-some
returns-clause-some c =
    rw (← c.self.view_is)
    (head_of c.self.inside.lines.items c.in_ok-line.line.now
    (omega (arith, c.in_ok-line.ensures.variant.0 refl, c.self.inside.lines.ok.0)) c.in_ok-line.ensures.lookup)
