use Rattle.std.proofs.Common.{refl}
use Rattle.warp_run.proofs.RowsRejoined.{same_rows}
use Rattle.warp_run.proofs.tip.Tip.add_with_room.Goals as goal

pub add_in_room-requires : goal.add_in_room-requires
add_in_room-requires c =
    let at = c.requires in
    (at.0, at.1, at.2, same_rows at.0 at.1 c.args.self.now _ at.2 refl refl c.reserve.ensures.same c.reserve_for.ensures.same at.3)

pub returns-clause-kept : goal.returns-clause-kept
returns-clause-kept c = λ P E done at.
    c.add_in_room.ensures.kept P E done
    (same_rows P E c.args.self.now _ done refl refl c.reserve.ensures.same c.reserve_for.ensures.same at)
