use Rattle.warp_table.proofs.LiveEvents.{live_once}
use Rattle.warp_table.proofs.law.live_once.Goals as goal

pub returns : goal.returns
returns c = live_once
