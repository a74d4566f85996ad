use Rattle.warp_clock.proofs.TurnLemmas.{tick_on, open_on, millis_on, range}
use Rattle.warp_clock.proofs.laws.ticks_never_go_back.Goals as goal

pub returns-clause-tick : goal.returns-clause-tick
returns-clause-tick c = tick_on

pub returns-clause-open : goal.returns-clause-open
returns-clause-open c = open_on

pub returns-clause-milliseconds : goal.returns-clause-milliseconds
returns-clause-milliseconds c = millis_on

pub returns-clause-range : goal.returns-clause-range
returns-clause-range c = range
