-- along the changes all rows before the tag stay done, but for the slack
use Rattle.warp_line.proofs.ReworkLemmas.{few_ticks, new_ticks, no_ticks}
use Rattle.warp_line.proofs.rework_law.rework_is_bounded.Goals as goal

pub returns-clause-bound : goal.returns-clause-bound
returns-clause-bound c = few_ticks

pub returns-clause-idle : goal.returns-clause-idle
returns-clause-idle c = no_ticks

pub returns-clause-ahead : goal.returns-clause-ahead
returns-clause-ahead c = new_ticks
