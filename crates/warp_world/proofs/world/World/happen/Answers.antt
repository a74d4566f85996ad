use Rattle.std.proofs.Common.{None, Some, refl}
use Rattle.std.proofs.lemmas.Result.{on_ok_weaker}
use Rattle.warp_world.specs.Replicas.{logs_of, world_of}
use Rattle.warp_world.proofs.Playing.{carried_in, made_in}
use Rattle.warp_world.proofs.Replacing.{run_kept}
use Rattle.warp_world.proofs.world.World.happen.Goals as goal

pub returns-in-Make-clause-logs : goal.returns-in-Make-clause-logs
returns-in-Make-clause-logs g c =
    let P = c.args.program.now in
    on_ok_weaker c.bring.result
    (λ did made. made_in P (world_of made c.args.self.now) c.args.next.now (logs_of c.bring.new.self) c.in-Make.replica c.in-Make.record c.in-Make.is (did made))
    (c.bring.ensures.logs P c.requires)

pub returns-in-Make-clause-programs : goal.returns-in-Make-clause-programs
returns-in-Make-clause-programs g c = run_kept c.args.program.now c.args.self.now c.bring.new.self c.bring.ensures.programs c.requires

pub returns-in-Some-clause-logs : goal.returns-in-Some-clause-logs
returns-in-Some-clause-logs g c =
    let P = c.args.program.now in
    on_ok_weaker c.bring-in-Some.result
    (λ did made.
    carried_in P (world_of made c.args.self.now) c.args.next.now (logs_of c.bring-in-Some.new.self) c.in-Carry.from c.in-Carry.place c.in-Carry.to
    (Some c.in-Some.record) c.in-Carry.is (c.in-Some.ensures made) (did made))
    (c.bring-in-Some.ensures.logs P c.requires)

pub returns-in-Some-clause-programs : goal.returns-in-Some-clause-programs
returns-in-Some-clause-programs g c =
    run_kept c.args.program.now c.args.self.now c.bring-in-Some.new.self c.bring-in-Some.ensures.programs c.requires

pub returns-in-None-clause-logs : goal.returns-in-None-clause-logs
returns-in-None-clause-logs g c made =
    carried_in c.args.program.now (world_of made c.args.self.now) c.args.next.now (logs_of c.args.self.now) c.in-Carry.from c.in-Carry.place c.in-Carry.to
    None c.in-Carry.is (c.in-None.ensures made) refl

pub returns-in-Collect-clause-programs : goal.returns-in-Collect-clause-programs
returns-in-Collect-clause-programs g c = run_kept c.args.program.now c.args.self.now c.collect.new.self c.collect.ensures.programs c.requires

pub returns-in-Settle-clause-programs : goal.returns-in-Settle-clause-programs
returns-in-Settle-clause-programs g c = run_kept c.args.program.now c.args.self.now c.settle_one.new.self c.settle_one.ensures.programs c.requires
