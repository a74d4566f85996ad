use Rattle.std.proofs.Common.{[], set, ap, ◌∙◌}
use Rattle.std.proofs.lemmas.Result.{on_ok_weaker}
use Rattle.warp_world.specs.Replicas.{RunAll, logs_of}
use Rattle.warp_world.proofs.Replacing.{logs_replaced, run_replaced}
use Rattle.warp_world.proofs.world.World.restart.Goals as goal

pub returns-clause-logs : goal.returns-clause-logs
returns-clause-logs g c =
    on_ok_weaker c.renew.result
    (λ empty. logs_replaced c.self.inside.replicas.items c.args.replica c.renew.new.replica empty ∙ ap (λ xs. set (logs_of xs) c.args.replica []) c.self.view_is)
    c.renew.ensures.records

pub returns-clause-programs : goal.returns-clause-programs
returns-clause-programs g c runs =
    let all : RunAll c.args.program.now c.self.inside.replicas.items = rw c.self.view_is runs in
    run_replaced c.args.program.now c.self.inside.replicas.items c.args.replica c.renew.new.replica
    (c.renew.ensures.program (ap (λ r. r.program) c.in-Some.ensures.value ∙ all c.args.replica c.in-Some.replica.now c.in-Some.ensures.item.3.0)) all
