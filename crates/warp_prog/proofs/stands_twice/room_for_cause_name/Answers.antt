-- what actions and timers leave
use Rattle.warp_prog.proofs.Rooms.{after_two}
use Rattle.warp_prog.proofs.stands_twice.room_for_cause_name.Goals as goal

pub returns : goal.returns
returns c =
    let first = rw c.deref.ensures.value at c.in_ok-left.ensures in
    let second = rw c.deref-2.ensures.value at c.room_for-2.ensures in
    after_two _ _ _ _ _ first second
