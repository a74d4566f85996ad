use Rattle.std.proofs.Common.{arith}
use Rattle.warp_world.proofs.Playing.{one_move_more}
use Rattle.warp_world.proofs.world.play.Goals as goal

pub loop-next-preserved : goal.loop-next-preserved
loop-next-preserved g c =
    record {
      logs = one_move_more c.args.program.now c.args.count _ c.loop-next.next-index c.next-item.result c.loop-next.world c.happen.new.self
          (omega arith) c.next-item.is c.loop-next.invariant.logs c.in_ok-happen.ensures.logs;
      programs = c.in_ok-happen.ensures.programs;
    }
