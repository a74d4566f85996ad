use Rattle.std.proofs.Common.{length, subst}
use Rattle.warp_record.specs.declared.line.Query.TheVariants.{Outputs}
use Rattle.warp_record.specs.declared.reply.Reply.TheVariants as reply
use Rattle.warp_replica.specs.Gives.{GivesQuery}
use Rattle.warp_replica.proofs.Answering.{gives_outputs}
use Rattle.warp_replica.proofs.SomeHorizon.{announced_to}
use Rattle.warp_replica.proofs.replica.Replica.outputs.Goals as goal

pub returns-clause-gives : goal.returns-clause-gives
returns-clause-gives g c =
    let r = c.self.inside in
    let log = c.len in
    let done = c.self.invariant.1.0 in
    let stood = c.outputs.ensures _ c.self.invariant.1.1 in
    let outs = c.outputs.result.now in
    subst (λ s. GivesQuery s.program s.records Outputs (reply.Outputs log.result (length outs))) c.self.view_is
    (gives_outputs r.program r.table done log.result log.ensures.once log.ensures.value stood.0
    (announced_to r.program r.table c.valid.ensures) outs stood.1)
