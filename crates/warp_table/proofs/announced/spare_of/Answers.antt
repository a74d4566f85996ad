-- what leaves the front and one more as they were
use Rattle.std.proofs.Common.{arith}
use Rattle.warp_table.specs.inner.Tally.{IsSpared}
use Rattle.warp_table.proofs.AnnouncedBlocks.{all_within, within_less, All-more, take_all_of}
use Rattle.warp_table.proofs.announced.spare_of.Goals as goal

pub loop-tally-preserved : goal.loop-tally-preserved
loop-tally-preserved c =
    let n = c.least-least.result in
    All-more (IsSpared n) c.args.tallies.now c.loop-tally.tally-index c.tally-item.result (omega arith) c.tally-item.is
    (all_within c.loop-tally.least n _ c.least-least.ensures.events.1 c.least-least.ensures.withdrawn.1 c.loop-tally.invariant)
    (within_less c.spare.result n c.tally-item.result c.least-least.ensures.events.0 c.least-least.ensures.withdrawn.0 c.spare.ensures)

pub returns : goal.returns
returns c = take_all_of (IsSpared c.loop-tally.least) c.args.tallies.now c.loop-tally.tally-index (omega arith) c.loop-tally.invariant
