use Rattle.std.proofs.Common.{refl}
use Rattle.warp_session.proofs.FetchedLemmas.{fetched_all}
use Rattle.warp_session.proofs.port_desk.last_reply.Goals as goal

pub returns : goal.returns
returns g c =
    let down = c.fetch_down_to.ensures in
    let last = c.next_answer.ensures in
    (c.next_answer.result, fetched_all _ _ _ _ down.fetched down.missing last.answer last.missing, refl)
