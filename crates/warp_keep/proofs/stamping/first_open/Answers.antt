use Rattle.std.proofs.Common.{arith}
use Rattle.warp_table.specs.Records.{set_of}
use Rattle.warp_keep.proofs.FirstFree.{first_here, first_next}
use Rattle.warp_keep.proofs.stamping.first_open.Goals as goal

pub returns-then-micro-room : goal.returns-then-micro-room
returns-then-micro-room g c =
    first_here c.args.room (set_of c.args.replica.now.records) c.args.origin c.args.asked c.closed_to.result c.closed_to.ensures c.later-from.result c.later-from.ensures
    (omega (arith, c.if-micro-room.true, c.micro.ensures.value)) c.micro.ensures.range.time

pub returns : goal.returns
returns g c =
    first_next c.args.room (set_of c.args.replica.now.records) c.args.origin c.args.asked c.closed_to.result c.closed_to.ensures c.later-from.result c.later-from.ensures
    c.new.result c.time.result c.time.ensures.value (omega (arith, c.if-room-eq0.false)) (omega (arith, c.if-micro-room.false, c.micro.ensures.value)) c.new.ensures
