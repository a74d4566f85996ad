use Rattle.warp_arena.proofs.ByName.{changes_new}
use Rattle.warp_arena.proofs.law.changes_new.Goals as goal

pub returns : goal.returns
returns c = λ change. changes_new change c.args.origin c.args.tag c.args.arena.now.places
