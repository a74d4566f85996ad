use Rattle.std.proofs.Common.{subst, arith}
use Rattle.warp_tag.specs.Table.{live}
use Rattle.warp_step.proofs.TraceExists.{exists}
use Rattle.warp_record.specs.declared.line.Query.TheVariants.{Breach}
use Rattle.warp_record.specs.declared.reply.Refusal.TheVariants.{NoOrigin}
use Rattle.warp_record.specs.declared.reply.Reply.TheVariants as reply
use Rattle.warp_table.specs.LogNames.{table_of}
use Rattle.warp_replica.specs.Gives.{GivesQuery}
use Rattle.warp_replica.proofs.Answering.{gives_breach, gives_no_origin}
use Rattle.warp_replica.proofs.SomeHorizon.{announced_to}
use Rattle.warp_replica.proofs.replica.Replica.breach.Goals as goal

pub returns-then-origins-origin-clause-gives : goal.returns-then-origins-origin-clause-gives
returns-then-origins-origin-clause-gives g c =
    let r = c.self.inside in
    let log = c.len-log in
    let run = exists r.program (live (table_of r.table)) in
    subst (λ s. GivesQuery s.program s.records (Breach c.args.origin) (reply.Refused NoOrigin)) c.self.view_is
    (gives_no_origin r.program r.table run.0 log.result log.ensures.once log.ensures.value run.1
    (announced_to r.program r.table c.valid.ensures) c.args.origin (omega (arith, c.origins.ensures)))

pub returns-clause-gives : goal.returns-clause-gives
returns-clause-gives g c =
    let r = c.self.inside in
    let log = c.len-log in
    let run = exists r.program (live (table_of r.table)) in
    subst (λ s. GivesQuery s.program s.records (Breach c.args.origin) (reply.Breach log.result c.broken.result)) c.self.view_is
    (gives_breach r.program r.table run.0 log.result log.ensures.once log.ensures.value run.1
    (announced_to r.program r.table c.valid.ensures) c.args.origin c.broken.result (omega (arith, c.origins.ensures)) c.broken.ensures)
