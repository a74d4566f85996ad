use Rattle.warp_table.proofs.JointHorizons.{horizon_of_both}
use Rattle.warp_table.proofs.honest_law.horizon_of_both.Goals as goal

pub returns : goal.returns
returns c = horizon_of_both
