use Rattle.std.proofs.Common.{inr}
use Rattle.warp_push.proofs.Joining.{stands}
use Rattle.warp_push.proofs.watchers.Watchers.begin_cells.Goals as goal

pub returns-clause-stands : goal.returns-clause-stands
returns-clause-stands c = λ done. inr (stands c.args.range c.args.who.key _ _ (c.join.ensures.last done))
