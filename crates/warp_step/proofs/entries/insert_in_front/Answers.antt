-- what was moved leaves a place for the entry
use Rattle.std.proofs.Common.{◌+◌, ◌-◌, ap, ◌∙◌, drop, set}
use Rattle.warp_step.proofs.EntryMoves.{came_down}
use Rattle.warp_step.proofs.entries.insert_in_front.Goals as goal

pub returns-clause-entries : goal.returns-clause-entries
returns-clause-entries c =
    ap (λ es. drop (c.args.start - 1) (set es (c.args.start - 1 + c.args.at) c.args.entry)) c.copy_within.ensures.after
    ∙ came_down c.args.items.now c.args.start c.args.at c.args.entry c.requires.room c.requires.within
