use Rattle.warp_clock.proofs.RoundLemmas.{grows, closed}
use Rattle.warp_clock.proofs.laws.rounds_only_grow.Goals as goal

pub returns-clause-grows : goal.returns-clause-grows
returns-clause-grows c = grows

pub returns-clause-closed : goal.returns-clause-closed
returns-clause-closed c = closed
