use Rattle.std.proofs.Common.{map, ap, ◌∙◌}
use Rattle.warp_world.specs.Replicas.{logs_of}
use Rattle.warp_world.proofs.Replacing.{logs_stay, programs_stay}
use Rattle.warp_world.proofs.world.World.collect.Goals as goal

pub returns-clause-logs : goal.returns-clause-logs
returns-clause-logs g c =
    logs_stay c.self.inside.replicas.items c.args.replica c.in-Some.replica.now c.collect_replica.new.replica
    (c.collect_replica.ensures.records ∙ ap (λ r. r.records) c.in-Some.ensures.value)
    ∙ ap logs_of c.self.view_is

pub returns-clause-programs : goal.returns-clause-programs
returns-clause-programs g c =
    programs_stay c.self.inside.replicas.items c.args.replica c.in-Some.replica.now c.collect_replica.new.replica
    (c.collect_replica.ensures.program ∙ ap (λ r. r.program) c.in-Some.ensures.value)
    ∙ ap (map (λ r. r.program)) c.self.view_is
