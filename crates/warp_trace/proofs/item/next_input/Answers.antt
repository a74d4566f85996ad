-- one name more
use Rattle.std.proofs.Common.{arith}
use Rattle.warp_trace.proofs.TraceItems.{none_more}
use Rattle.warp_trace.proofs.item.next_input.Goals as goal

pub loop-entry-preserved : goal.loop-entry-preserved
loop-entry-preserved c =
    let was = c.loop-entry.invariant in
    let less = c.nearer-next.ensures.next in
    let last = was.end in
    record {
      from = c.nearer-next.ensures.from;
      end = omega arith;
      none = λ n low high. none_more n c.args.entries.now c.loop-entry.entry-index c.entry-item.result c.loop-entry-test.true c.entry-item.is
          (was.none n low (omega arith)) (c.nearer-next.ensures.none n low high);
    }
