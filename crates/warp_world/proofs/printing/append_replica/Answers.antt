-- A log of a valid program has answers, and each line is that of theirs.
use Rattle.std.proofs.Common.{◌<◌, subst}
use Rattle.warp_step.proofs.ValidLemmas.{validity}
use Rattle.warp_world.proofs.Printings.{replica_added}
use Rattle.warp_world.proofs.printing.append_replica.Goals as goal

pub returns : goal.returns
returns g c =
    let r = c.args.replica.now in
    let origins = subst (λ P. 0 < P.origins) c.program.ensures (validity c.program.result.now c.valid.ensures).limits.origins_some in
    let some = c.one_answer.ensures.some r.program r.records origins c.valid-2.ensures.once in
    replica_added r c.args.number c.args.text.now.items c.append_title.new.text.items c.append_counts.new.text.items c.append_variables.new.text.items
    some c.in_ok-append_title.ensures c.in_ok-append_counts.ensures c.in_ok-append_variables.ensures
