use Rattle.std.proofs.Common.{sym, ◌∙◌, map}
use Rattle.warp_prog.specs.Names.{link_unknown}
use Rattle.warp_prog.specs.View.{reactor_tree}
use Rattle.warp_prog.proofs.Anys.{any_none}
use Rattle.warp_prog.proofs.names.any_link.Goals as goal

pub returns : goal.returns
returns c = sym (any_none (link_unknown (map reactor_tree c.args.reactors.now)) _ c.loop-i.i c.loop-i-test.false) ∙ c.loop-i.invariant
