use Rattle.warp_clock.proofs.TurnLemmas.{due}
use Rattle.warp_clock.proofs.laws.due_is_exact.Goals as goal

pub returns-clause-due : goal.returns-clause-due
returns-clause-due c = due
