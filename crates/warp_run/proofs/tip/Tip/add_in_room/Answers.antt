use Rattle.std.proofs.Common.{sym, ◌∙◌}
use Rattle.warp_run.proofs.tip.Tip.add_in_room.Goals as goal

pub save-is_room-requires : goal.save-is_room-requires
save-is_room-requires c = let at = c.requires.3 in at.ready.of_program.vars ∙ sym at.width
