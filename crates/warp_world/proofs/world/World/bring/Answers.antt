use Rattle.std.proofs.Common.{Some, map, ap, ◌∙◌}
use Rattle.std.proofs.lemmas.Result.{on_ok_weaker}
use Rattle.warp_world.specs.Replicas.{world_of}
use Rattle.warp_world.specs.World.{after_carry, log_of}
use Rattle.warp_world.proofs.Playing.{brought}
use Rattle.warp_world.proofs.Replacing.{programs_stay}
use Rattle.warp_world.proofs.world.World.bring.Goals as goal

pub returns-clause-logs : goal.returns-clause-logs
returns-clause-logs g c P runs =
    on_ok_weaker c.take_in.result
    (λ took made.
    brought P made c.self.inside.replicas.items c.args.replica c.args.record.now c.in-Some.replica.now c.take_in.new.replica
    (rw c.self.view_is runs) c.in-Some.ensures.item.3.0 c.in-Some.ensures.value took
    ∙ ap (λ xs. (after_carry P c.args.replica (world_of made xs) (Some c.args.record.now) (log_of (world_of made xs) c.args.replica)).logs) c.self.view_is)
    c.take_in.ensures.records

pub returns-clause-programs : goal.returns-clause-programs
returns-clause-programs g c =
    programs_stay c.self.inside.replicas.items c.args.replica c.in-Some.replica.now c.take_in.new.replica
    (c.take_in.ensures.program ∙ ap (λ r. r.program) c.in-Some.ensures.value)
    ∙ ap (map (λ r. r.program)) c.self.view_is
