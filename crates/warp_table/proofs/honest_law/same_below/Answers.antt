use Rattle.warp_table.proofs.BelowHorizon.{live_same, tells_same}
use Rattle.warp_table.proofs.honest_law.same_below.Goals as goal

pub returns : goal.returns
returns c = λ P S U end D E honest taken within horizon. live_same S U end D E (tells_same P S U end honest taken within horizon)
