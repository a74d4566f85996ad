-- one more was cut
use Rattle.std.proofs.Common.{◌<◌, length, set, ap, sym, ◌∙◌, arith}
use Rattle.std.proofs.lemmas.List.Edits.{map_over_more}
use Rattle.warp_run.specs.Skips.{cut_at}
use Rattle.warp_run.proofs.skips.cut_each.Goals as goal

pub loop-skip-preserved : goal.loop-skip-preserved
loop-skip-preserved c =
    let l = c.loop-skip in
    let cut = cut_at c.args.tag c.args.place.now in
    let there : l.skip-index < length c.args.skips.now = omega arith in
    ap (set l.skips l.skip-index) (c.cut.ensures ∙ ap cut (sym c.skip-item.is))
    ∙ map_over_more cut c.args.skips.now l.skips l.skip-index c.skip-item.result there l.invariant c.skip-item.is
