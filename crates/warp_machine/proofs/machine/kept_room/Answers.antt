use Rattle.warp_keep.specs.Keeping.{keeps}
use Rattle.warp_machine.proofs.KeptRooms.{never}
use Rattle.warp_machine.proofs.machine.kept_room.Goals as goal

pub unreachable-requires : goal.unreachable-requires
unreachable-requires g c =
    never (keeps c.args.keeping) c.new-room.result _ c.in-Err.field-0 c.new-room.ensures c.requires c.in-Err.ensures.err
