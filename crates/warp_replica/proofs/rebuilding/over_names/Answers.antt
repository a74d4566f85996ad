use Rattle.std.proofs.Common.{sym}
use Rattle.warp_replica.proofs.RebuiltNames.{in_more}
use Rattle.warp_replica.proofs.rebuilding.over_names.Goals as goal

pub loop-name-preserved : goal.loop-name-preserved
loop-name-preserved g c = record {
  names = in_more g.T.Timeline.stands_for c.args.program.now c.args.names.now c.loop-name.name-index c.loop-name.fresh c.put_name.new.timeline
      c.name-item.result c.loop-name.invariant.names c.loop-name-test.true (sym c.name-item.is) c.in_ok-put_name.ensures.stands;
  floor = c.put_name.ensures.floor;
}
