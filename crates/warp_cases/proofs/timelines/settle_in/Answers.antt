use Rattle.std.proofs.Common.{refl}
use Rattle.warp_cases.proofs.timelines.settle_in.Goals as goal

pub returns : goal.returns
returns g c calls h =
    let settled = c.settle.ensures.stands (record { program = c.args.program.now; table = h.table; done = h.done }) h.stands refl in
    record { table = h.table; done = settled.0; stands = settled.1.stands; few = h.few }
