-- one has so many more
use Rattle.std.proofs.Common.{◌<◌, length, set, ap, sym, ◌∙◌, arith}
use Rattle.std.proofs.lemmas.List.Edits.{map_over_more}
use Rattle.warp_table.specs.inner.Tally.{with_more}
use Rattle.warp_table.proofs.announced.add_more.Goals as goal

pub loop-tally-preserved : goal.loop-tally-preserved
loop-tally-preserved c =
    let l = c.loop-tally in
    let there : l.tally-index < length c.args.tallies.now = omega arith in
    ap (set l.tallies l.tally-index) (c.add.ensures ∙ ap (with_more c.args.more) (sym c.tally-item.is))
    ∙ map_over_more (with_more c.args.more) c.args.tallies.now l.tallies l.tally-index c.tally-item.result there l.invariant c.tally-item.is
