use Rattle.warp_table.proofs.Horizons.{later_horizon}
use Rattle.warp_table.proofs.honest_law.later_horizon.Goals as goal

pub returns : goal.returns
returns c = later_horizon
