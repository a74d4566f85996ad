use Rattle.warp_table.proofs.SomeHeard.{some_breach}
use Rattle.warp_table.proofs.SomeJoint.{some_reach}
use Rattle.warp_table.proofs.honest_law.some_reach.Goals as goal

pub returns-clause-reach : goal.returns-clause-reach
returns-clause-reach c = some_reach

pub returns-clause-breach : goal.returns-clause-breach
returns-clause-breach c = some_breach
