-- no level is left, and an expression has one
use Rattle.warp_prog.specs.View.{term_tree}
use Rattle.warp_prog.proofs.Depths.{deeper_than_none}
use Rattle.warp_prog.proofs.limits.body.+is_deeper_term.Goals as goal

pub returns-in_default : goal.returns-in_default
returns-in_default t c = deeper_than_none c.args.levels (term_tree c.args.term.now) c.in_default.ensures
