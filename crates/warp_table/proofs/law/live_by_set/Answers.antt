use Rattle.warp_table.proofs.LiveEvents.{live_by_set}
use Rattle.warp_table.proofs.law.live_by_set.Goals as goal

pub returns : goal.returns
returns c = live_by_set
