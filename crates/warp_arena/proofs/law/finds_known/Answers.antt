use Rattle.warp_arena.proofs.ByName.{finds_known}
use Rattle.warp_arena.proofs.law.finds_known.Goals as goal

pub returns : goal.returns
returns c = finds_known c.args.origin c.args.tag c.args.arena.now.places c.ordered.ensures.order.handles
