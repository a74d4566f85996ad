use Rattle.warp_arena.proofs.ByName.{changes_found}
use Rattle.warp_arena.proofs.law.changes_found.Goals as goal

pub returns : goal.returns
returns c = λ change. changes_found change c.args.origin c.args.tag c.args.arena.now.places c.ordered.ensures.order.table c.ordered.ensures.order.handles
