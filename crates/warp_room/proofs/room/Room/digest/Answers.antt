use Rattle.warp_room.proofs.Digests.{told_alone}
use Rattle.warp_room.proofs.room.Room.digest.Goals as goal

pub returns : goal.returns
returns g c =
    rw (← c.self.view_is) (told_alone c.told_of.result _ _ (c.told_of.ensures c.self.inside.replica.records c.self.invariant.2))
