use Rattle.rtrb.specs.Ring.{received}
use Rattle.warp_disk.proofs.HandingLemmas.{passed_end, passed_more, passed_to}
use Rattle.warp_disk.proofs.handing.next_since.Goals as goal

pub returns-then-begun-beginning : goal.returns-then-begun-beginning
returns-then-begun-beginning c =
    passed_to c.args.beginning (received c.args.handed.now) (received c.loop.handed) (received c.pop.new.self) c.in-Ok.next
    c.loop.invariant c.in-Ok.ensures.ok.0 c.if-begun-beginning.true

pub loop-preserved : goal.loop-preserved
loop-preserved c =
    passed_more c.args.beginning (received c.args.handed.now) (received c.loop.handed) (received c.pop.new.self) c.in-Ok.next
    c.loop.invariant c.in-Ok.ensures.ok.0 c.if-begun-beginning.false
