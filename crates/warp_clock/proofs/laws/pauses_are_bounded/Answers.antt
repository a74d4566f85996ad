use Rattle.warp_clock.proofs.TurnLemmas.{passed, stays_open, stops}
use Rattle.warp_clock.proofs.laws.pauses_are_bounded.Goals as goal

pub returns-clause-passed : goal.returns-clause-passed
returns-clause-passed c = passed

pub returns-clause-open : goal.returns-clause-open
returns-clause-open c = stays_open

pub returns-clause-moment : goal.returns-clause-moment
returns-clause-moment c = stops
