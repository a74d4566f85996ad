use Rattle.warp_table.proofs.Horizons.{one_horizon}
use Rattle.warp_table.proofs.honest_law.one_horizon.Goals as goal

pub returns : goal.returns
returns c = one_horizon
