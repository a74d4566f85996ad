use Rattle.warp_table.proofs.SomeJoint.{some_breach_jointly, some_reach_jointly}
use Rattle.warp_table.proofs.honest_law.some_joint_reach.Goals as goal

pub returns-clause-reach : goal.returns-clause-reach
returns-clause-reach c = some_reach_jointly

pub returns-clause-breach : goal.returns-clause-breach
returns-clause-breach c = some_breach_jointly
