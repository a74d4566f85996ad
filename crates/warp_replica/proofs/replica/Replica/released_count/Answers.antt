use Rattle.std.proofs.Common.{length, subst, sym}
use Rattle.warp_record.specs.declared.line.Query.TheVariants.{Released}
use Rattle.warp_record.specs.declared.reply.Reply.TheVariants as reply
use Rattle.warp_table.specs.Records.{set_of}
use Rattle.warp_replica.specs.Answers.{IsReleased}
use Rattle.warp_replica.specs.Gives.{GivesQuery}
use Rattle.warp_replica.proofs.Answering.{gives_released}
use Rattle.warp_replica.proofs.replica.Replica.released_count.Goals as goal

pub returns-clause-gives : goal.returns-clause-gives
returns-clause-gives g c =
    let r = c.self.inside in
    let log = c.len in
    let outs = c.released.result.now in
    let released = subst (λ s. IsReleased s.program (set_of s.records) outs) (sym c.self.view_is) c.released.ensures.released in
    subst (λ s. GivesQuery s.program s.records Released (reply.Released log.result (length outs))) c.self.view_is
    (gives_released r.program r.table log.result log.ensures.once log.ensures.value outs released)
