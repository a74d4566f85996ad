use Rattle.warp_table.proofs.JointHorizons.{with_own_alone, without_joint}
use Rattle.warp_table.proofs.honest_law.horizon_without_joint.Goals as goal

pub returns : goal.returns
returns c = λ P S end none. (without_joint S none P end, with_own_alone S none P end)
