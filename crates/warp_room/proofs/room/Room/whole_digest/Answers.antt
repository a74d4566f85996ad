use Rattle.std.proofs.Common.{arith}
use Rattle.warp_room.proofs.room.Room.whole_digest.Goals as goal

pub returns : goal.returns
returns g c =
    let told = c.in-Ok.ensures c.self.inside.replica.records c.self.invariant.2 in
    rw (← c.self.view_is)
    (told.0, omega (arith, told.1, c.if-count-len.false, c.count.ensures, c.len.ensures.value, c.self.invariant.2.within))
