-- the entry that was there is written over
use Rattle.std.proofs.Common.{◌+◌, ap, ◌∙◌, drop, length, length-set, set}
use Rattle.std.specs.List.{refill}
use Rattle.std.proofs.lemmas.List.{drop-set-add}
use Rattle.warp_step.proofs.EntryMoves.{refilled}
use Rattle.warp_step.proofs.entries.Entries.set.Goals as goal

pub returns : goal.returns
returns c =
    let is = c.self.inside in
    let xs = is.items.items in
    let n = is.start + c.args.at in
    ap (λ ys. drop is.start (refill (length xs) xs (set ys n c.args.entry))) c.as_mut_slice-all.ensures.value
    ∙ ap (drop is.start) (refilled xs (set xs n c.args.entry) (length-set xs n c.args.entry))
    ∙ drop-set-add is.start xs c.args.at c.args.entry ∙ ap (λ es. set es c.args.at c.args.entry) c.self.view_is
