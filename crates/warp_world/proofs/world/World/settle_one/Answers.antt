use Rattle.std.proofs.Common.{map, ap, ◌∙◌}
use Rattle.warp_world.specs.Replicas.{logs_of}
use Rattle.warp_world.proofs.Replacing.{floors_stay, logs_stay, programs_stay}
use Rattle.warp_world.proofs.world.World.settle_one.Goals as goal

pub returns-clause-logs : goal.returns-clause-logs
returns-clause-logs g c =
    logs_stay c.self.inside.replicas.items c.args.replica c.in-Some.replica.now c.settle_replica.new.replica
    (c.settle_replica.ensures.records ∙ ap (λ r. r.records) c.in-Some.ensures.value)
    ∙ ap logs_of c.self.view_is

pub returns-clause-programs : goal.returns-clause-programs
returns-clause-programs g c =
    programs_stay c.self.inside.replicas.items c.args.replica c.in-Some.replica.now c.settle_replica.new.replica
    (c.settle_replica.ensures.program ∙ ap (λ r. r.program) c.in-Some.ensures.value)
    ∙ ap (map (λ r. r.program)) c.self.view_is

pub returns-clause-floors : goal.returns-clause-floors
returns-clause-floors g c =
    floors_stay g.T.Timeline.floor c.self.inside.replicas.items c.args.replica c.in-Some.replica.now c.settle_replica.new.replica
    (c.settle_replica.ensures.floor ∙ ap (λ r. g.T.Timeline.floor r.timeline) c.in-Some.ensures.value)
    ∙ ap (map (λ r. g.T.Timeline.floor r.timeline)) c.self.view_is
