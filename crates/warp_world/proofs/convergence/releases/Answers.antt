use Rattle.warp_table.specs.Records.{set_of}
use Rattle.warp_world.proofs.ReleasedByTwo.{either_begins, same_released, smaller_begins}
use Rattle.warp_world.proofs.convergence.releases.Goals as goal

pub returns-clause-alike : goal.returns-clause-alike
returns-clause-alike g c =
    let one = c.args.one.now in
    let other = c.args.other.now in
    same_released one.program other.program (set_of one.records) (set_of other.records)
    c.released.result.now c.released-2.result.now c.requires.program c.released.ensures.released c.released-2.ensures.released

pub returns-clause-agree : goal.returns-clause-agree
returns-clause-agree g c =
    let one = c.args.one.now in
    let other = c.args.other.now in
    either_begins one.program other.program (set_of one.records) (set_of other.records)
    c.released.result.now c.released-2.result.now c.requires.program c.released.ensures.released c.released-2.ensures.released

pub returns-clause-later : goal.returns-clause-later
returns-clause-later g c =
    let one = c.args.one.now in
    let other = c.args.other.now in
    smaller_begins one.program other.program (set_of one.records) (set_of other.records)
    c.released.result.now c.released-2.result.now c.requires.program c.released.ensures.released c.released-2.ensures.released
