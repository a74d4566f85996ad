use Rattle.std.proofs.Common.{subst}
use Rattle.warp_record.specs.declared.line.Query.TheVariants.{Lost}
use Rattle.warp_record.specs.declared.reply.Reply.TheVariants as reply
use Rattle.warp_replica.specs.Gives.{GivesQuery}
use Rattle.warp_replica.proofs.Answering.{gives_lost}
use Rattle.warp_replica.proofs.SomeHorizon.{announced_to}
use Rattle.warp_replica.proofs.replica.Replica.lost.Goals as goal

pub returns-clause-gives : goal.returns-clause-gives
returns-clause-gives g c =
    let r = c.self.inside in
    let log = c.len in
    let done = c.self.invariant.1.0 in
    let stood = c.state.ensures _ c.self.invariant.1.1 in
    rw c.lost.ensures
    (subst (λ s. GivesQuery s.program s.records Lost (reply.Lost log.result c.state.result.now.lost)) c.self.view_is
    (gives_lost r.program r.table done log.result log.ensures.once log.ensures.value stood.0
    (announced_to r.program r.table c.valid.ensures) c.state.result.now stood.1))
