use Rattle.std.proofs.Common.{subst}
use Rattle.warp_tag.specs.Table.{live}
use Rattle.warp_step.proofs.TraceExists.{exists}
use Rattle.warp_record.specs.declared.line.Query.TheVariants.{Horizon}
use Rattle.warp_record.specs.declared.reply.Reply.TheVariants as reply
use Rattle.warp_table.specs.LogNames.{table_of}
use Rattle.warp_replica.specs.Gives.{GivesQuery}
use Rattle.warp_replica.proofs.Answering.{gives_horizon}
use Rattle.warp_replica.proofs.SomeHorizon.{announced_before}
use Rattle.warp_replica.proofs.replica.Replica.horizon.Goals as goal

pub returns-clause-gives : goal.returns-clause-gives
returns-clause-gives g c =
    let r = c.self.inside in
    let log = c.len in
    let end = c.horizon.result in
    let run = exists r.program (live (table_of r.table)) in
    subst (λ s. GivesQuery s.program s.records Horizon (reply.Horizon log.result end)) c.self.view_is
    (gives_horizon r.program r.table run.0 log.result log.ensures.once log.ensures.value run.1
    (announced_before r.program r.table end c.horizon.ensures) end c.horizon.ensures)
