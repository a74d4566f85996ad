-- the next one comes in
use Rattle.std.proofs.Common.{◌<◌, ◌∙◌, length, arith}
use Rattle.warp_table.proofs.TagLogs.{placed_next}
use Rattle.warp_table.proofs.tag_log.put_in_order.Goals as goal

pub loop-placed-preserved : goal.loop-placed-preserved
loop-placed-preserved c =
    let is = c.loop-placed.invariant in
    let within : c.loop-placed.placed < length c.args.came.now = omega (arith, c.loop-placed-test.true) in
    record {
      within = omega (arith, within);
      same = placed_next c.args.came.now c.loop-placed.placed c.loop-placed.in_order c.insert.new.self c.index-came-placed.result c.index-came-placed.result within c.index-came-placed.is c.in_ok-insert.ensures.ok ∙ is.same;
    }
