-- what was moved leaves a place for the entry
use Rattle.std.proofs.Common.{ap, ◌∙◌, set}
use Rattle.warp_step.proofs.EntryMoves.{came_up}
use Rattle.warp_step.proofs.entries.move_up.Goals as goal

pub returns : goal.returns
returns c = ap (λ es. set es c.args.at c.args.entry) c.copy_within.ensures.after ∙ came_up c.args.items.now c.args.at c.args.entry c.requires
