-- the entry is the last one
use Rattle.std.proofs.Common.{ap, ◌∙◌, drop, length}
use Rattle.std.specs.List.{insert}
use Rattle.warp_step.proofs.EntryMoves.{came_last}
use Rattle.warp_step.proofs.entries.Entries.push.Goals as goal

pub returns : goal.returns
returns c =
    let is = c.self.inside in
    ap (drop is.start) c.push.ensures.items ∙ came_last is.items.items is.start c.args.entry c.self.invariant.0
    ∙ ap (λ l. insert l (length l) c.args.entry) c.self.view_is
