use Rattle.warp_keep.specs.Keeping.{keeps}
use Rattle.warp_room.proofs.KeptLogs.{goes_on_itself}
use Rattle.warp_room.proofs.room.Room.keep.Goals as goal

pub invariant_of-self : goal.invariant_of-self
invariant_of-self g c =
    let log = c.self.inside.replica.records in (
      c.self.invariant.0,
      c.self.invariant.1,
      c.self.invariant.2,
      record { first = log; could = c.in_ok-may_keep.ensures; goes_on = goes_on_itself (keeps c.args.keeping) log },
    )

pub returns-clause-may : goal.returns-clause-may
returns-clause-may g c = rw (← c.self.view_is) c.in_ok-may_keep.ensures
