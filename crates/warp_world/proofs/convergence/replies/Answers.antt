-- The other's reply is one on the first one's log, since the query asks for no place.
use Rattle.std.proofs.Common.{sym, subst}
use Rattle.warp_step.specs.Program.{Program}
use Rattle.warp_replica.specs.Gives.{GivesQuery}
use Rattle.warp_replica.proofs.Replies.{one_reply, same_gives}
use Rattle.warp_world.proofs.convergence.replies.Goals as goal

pub returns-clause-alike : goal.returns-clause-alike
returns-clause-alike g c places =
    let one = c.args.one.now in
    let other = c.args.other.now in
    let asked = c.args.query in
    let reply = c.answer-2.result in
    let gives =
    subst (λ (P : Program). GivesQuery P other.records asked reply) (sym c.requires.program) c.answer-2.ensures.gives in
    one_reply one.program one.records asked c.answer.result reply c.answer.ensures.gives
    (same_gives one.program other.records one.records asked reply (sym c.requires.records) places gives)
