use Rattle.warp_clock.proofs.TurnLemmas.{count, jump}
use Rattle.warp_clock.proofs.laws.ticks_are_exact.Goals as goal

pub returns-clause-count : goal.returns-clause-count
returns-clause-count c = count

pub returns-clause-jump : goal.returns-clause-jump
returns-clause-jump c = jump
