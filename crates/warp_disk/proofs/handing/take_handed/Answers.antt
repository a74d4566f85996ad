use Rattle.std.proofs.Common.{arith}
use Rattle.rtrb.specs.Ring.{received}
use Rattle.warp_disk.proofs.HandingLemmas.{none_taken, taken_end, taken_more}
use Rattle.warp_disk.proofs.handing.take_handed.Goals as goal

pub loop-init : goal.loop-init
loop-init g c = (omega arith, none_taken g.D.Disk.written c.args.beginning c.args.keeper.now (received c.args.handed.now))

pub returns-in_default : goal.returns-in_default
returns-in_default g c =
    taken_end g.D.Disk.written c.args.beginning c.loop.count c.args.keeper.now c.loop.keeper (received c.args.handed.now)
    (received c.loop.handed) (received c.next_since.new.handed) c.loop.invariant.1 c.in_default.ensures

pub overflow_add-count : goal.overflow_add-count
overflow_add-count g c = omega (arith, c.loop.invariant.0, c.loop-test.true)

pub loop-preserved : goal.loop-preserved
loop-preserved g c = (
  omega (arith, c.loop.invariant.0),
  taken_more g.D.Disk.written c.args.beginning c.loop.count c.args.keeper.now c.loop.keeper c.take.new.self (received c.args.handed.now)
      (received c.loop.handed) (received c.next_since.new.handed) c.in-Some.entry c.loop.invariant.1 c.in-Some.ensures c.in_ok-take.ensures.takes,
)

pub returns : goal.returns
returns g c = c.loop.invariant.1
