use Rattle.std.proofs.Common.{◌≡◌, ◌∙◌, ap, subst, sym}
use Rattle.warp_tag.specs.Limits.{has_joint}
use Rattle.warp_tag.specs.Table.{live}
use Rattle.warp_step.proofs.TraceExists.{exists}
use Rattle.warp_record.specs.declared.line.Query.TheVariants.{JointBreach}
use Rattle.warp_record.specs.declared.reply.Refusal.TheVariants.{NoOrigin}
use Rattle.warp_record.specs.declared.reply.Reply.TheVariants as reply
use Rattle.warp_table.specs.LogNames.{table_of}
use Rattle.warp_replica.specs.Gives.{GivesQuery}
use Rattle.warp_replica.proofs.Answering.{gives_joint_breach, gives_no_joint}
use Rattle.warp_replica.proofs.SomeHorizon.{announced_to}
use Rattle.warp_replica.proofs.replica.Replica.joint_breach.Goals as goal

pub returns-then-not-has_joint-clause-gives : goal.returns-then-not-has_joint-clause-gives
returns-then-not-has_joint-clause-gives g c =
    let r = c.self.inside in
    let log = c.len-log in
    let run = exists r.program (live (table_of r.table)) in
    let has : c.has_joint.result ≡ has_joint r.program.form = c.has_joint.ensures ∙ ap has_joint c.form.ensures in
    subst (λ s. GivesQuery s.program s.records JointBreach (reply.Refused NoOrigin)) c.self.view_is
    (gives_no_joint r.program r.table run.0 log.result log.ensures.once log.ensures.value run.1
    (announced_to r.program r.table c.valid.ensures) (sym has ∙ c.if-not-has_joint.true))

pub returns-clause-gives : goal.returns-clause-gives
returns-clause-gives g c =
    let r = c.self.inside in
    let log = c.len-log in
    let run = exists r.program (live (table_of r.table)) in
    let has : c.has_joint.result ≡ has_joint r.program.form = c.has_joint.ensures ∙ ap has_joint c.form.ensures in
    subst (λ s. GivesQuery s.program s.records JointBreach (reply.Breach log.result c.joint_broken.result)) c.self.view_is
    (gives_joint_breach r.program r.table run.0 log.result log.ensures.once log.ensures.value run.1
    (announced_to r.program r.table c.valid.ensures) c.joint_broken.result (sym has ∙ c.if-not-has_joint.false) c.joint_broken.ensures)
