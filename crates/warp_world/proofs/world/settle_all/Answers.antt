use Rattle.std.proofs.Common.{◌∙◌, subst, All, IsTrue, arith}
use Rattle.std.proofs.lemmas.List.{take_all}
use Rattle.warp_world.proofs.Replacing.{All-one_more, floors_stay, logs_stay, programs_stay}
use Rattle.warp_world.proofs.world.settle_all.Goals as goal

pub returns-in_err-settle_replica-clause-logs : goal.returns-in_err-settle_replica-clause-logs
returns-in_err-settle_replica-clause-logs g c =
    logs_stay c.loop-each.replicas c.loop-each.each-index c.each-item.result c.settle_replica.new.replica c.settle_replica.ensures.records
    ∙ c.loop-each.invariant.logs

pub returns-in_err-settle_replica-clause-programs : goal.returns-in_err-settle_replica-clause-programs
returns-in_err-settle_replica-clause-programs g c =
    programs_stay c.loop-each.replicas c.loop-each.each-index c.each-item.result c.settle_replica.new.replica c.settle_replica.ensures.program
    ∙ c.loop-each.invariant.programs

pub returns-in_err-settle_replica-clause-floors : goal.returns-in_err-settle_replica-clause-floors
returns-in_err-settle_replica-clause-floors g c =
    floors_stay g.T.Timeline.floor c.loop-each.replicas c.loop-each.each-index c.each-item.result c.settle_replica.new.replica
    c.settle_replica.ensures.floor
    ∙ c.loop-each.invariant.floors

pub loop-each-preserved : goal.loop-each-preserved
loop-each-preserved g c =
    let xs = c.loop-each.replicas in
    let i = c.loop-each.each-index in
    let x = c.settle_replica.new.replica in
    record {
      logs = logs_stay xs i c.each-item.result x c.settle_replica.ensures.records ∙ c.loop-each.invariant.logs;
      programs = programs_stay xs i c.each-item.result x c.settle_replica.ensures.program ∙ c.loop-each.invariant.programs;
      floors = floors_stay g.T.Timeline.floor xs i c.each-item.result x c.settle_replica.ensures.floor ∙ c.loop-each.invariant.floors;
      settled = All-one_more (λ r. IsTrue (g.T.Timeline.settled r.timeline)) xs i x (omega arith) c.loop-each.invariant.settled c.in_ok-settle_replica.ensures.settled;
    }

pub returns-clause-settled : goal.returns-clause-settled
returns-clause-settled g c =
    subst (All (λ r. IsTrue (g.T.Timeline.settled r.timeline))) (take_all c.loop-each.each-index c.loop-each.replicas (omega arith)) c.loop-each.invariant.settled
