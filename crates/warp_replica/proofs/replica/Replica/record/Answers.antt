use Rattle.std.proofs.Common.{◌-◌, Some, None, subst}
use Rattle.warp_tag.specs.Table.{live}
use Rattle.warp_step.proofs.TraceExists.{exists}
use Rattle.warp_record.specs.declared.line.Query.TheVariants.{Log}
use Rattle.warp_record.specs.declared.reply.Reply.TheVariants as reply
use Rattle.warp_table.specs.LogNames.{table_of}
use Rattle.warp_replica.specs.Gives.{GivesQuery}
use Rattle.warp_replica.proofs.Answering.{allowed_at, at_place, at_none, gives_log}
use Rattle.warp_replica.proofs.SomeHorizon.{announced_to}
use Rattle.warp_replica.proofs.replica.Replica.record.Goals as goal

pub record_in_range-requires : goal.record_in_range-requires
record_in_range-requires g c =
    let r = c.self.inside in
    allowed_at r.program r.table c.self.invariant.0.0 (c.args.place - 1) c.in-Some.record c.in-Some.ensures.found.1

pub returns-in-Some-clause-gives : goal.returns-in-Some-clause-gives
returns-in-Some-clause-gives g c =
    let r = c.self.inside in
    let log = c.len-log in
    let run = exists r.program (live (table_of r.table)) in
    let said = c.in-Some.record in
    subst (λ s. GivesQuery s.program s.records (Log c.args.place) (reply.Log log.result said)) c.self.view_is
    (gives_log r.program r.table run.0 log.result log.ensures.once log.ensures.value run.1
    (announced_to r.program r.table c.valid.ensures) c.args.place (Some said)
    (at_place r.table c.args.place said c.in-Some.ensures.found))

pub returns-in-None-clause-gives : goal.returns-in-None-clause-gives
returns-in-None-clause-gives g c =
    let r = c.self.inside in
    let log = c.len-log in
    let run = exists r.program (live (table_of r.table)) in
    subst (λ s. GivesQuery s.program s.records (Log c.args.place) (reply.Nothing log.result)) c.self.view_is
    (gives_log r.program r.table run.0 log.result log.ensures.once log.ensures.value run.1
    (announced_to r.program r.table c.valid.ensures) c.args.place None
    (at_none r.table c.args.place c.in-None.ensures.none))
