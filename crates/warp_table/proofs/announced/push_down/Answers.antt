-- where nothing is put off, all stays
use Rattle.std.proofs.Common.{◌≡◌, sym, arith}
use Rattle.warp_table.specs.inner.Tally.{no_names}
use Rattle.warp_table.proofs.AnnouncedBlocks.{pushed_down}
use Rattle.warp_table.proofs.announced.push_down.Goals as goal

pub returns-else-more-gt0-2-clause-tallies : goal.returns-else-more-gt0-2-clause-tallies
returns-else-more-gt0-2-clause-tallies c =
    let more = c.args.more.now in
    let events : more.events ≡ 0 = omega (arith, c.if-more-gt0.false) in
    let withdrawn : more.withdrawn ≡ 0 = omega (arith, c.if-more-gt0-2.false) in
    let none : more ≡ no_names = λ i. record { events = events i; withdrawn = withdrawn i } in
    sym (pushed_down more c.args.tallies.now.items none)
