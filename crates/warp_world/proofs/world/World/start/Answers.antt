use Rattle.warp_world.proofs.Replacing.{empty_one_more, run_one_more}
use Rattle.warp_world.proofs.world.World.start.Goals as goal

pub loop-preserved : goal.loop-preserved
loop-preserved g c =
    let xs = c.loop.replicas.items in
    let all = c.push.new.self.items in
    let x = c.in_ok-new_replica.field-0 in
    record {
      logs = empty_one_more c.loop.counter xs all x c.in_ok-push.ensures.items c.in_ok-new_replica.ensures.records c.loop.invariant.logs;
      programs = run_one_more c.args.program.now xs all x c.in_ok-push.ensures.items c.in_ok-new_replica.ensures.program c.loop.invariant.programs;
    }
