use Rattle.std.proofs.Common.{sym, ◌∙◌}
use Rattle.warp_prog.specs.Names.{called_unknown}
use Rattle.warp_prog.specs.View.{reactor_tree}
use Rattle.warp_prog.proofs.Anys.{any_more, any_none}
use Rattle.warp_prog.proofs.names.any_called.Goals as goal

pub loop-i-preserved : goal.loop-i-preserved
loop-i-preserved c =
    any_more (called_unknown (reactor_tree c.args.reactor.now)) _ c.loop-i.i c.index-called-i.result c.loop-i-test.true c.index-called-i.is (sym c.called_unknown.ensures ∙ c.if-called_unknown.false)
    ∙ c.loop-i.invariant

pub returns : goal.returns
returns c = sym (any_none (called_unknown (reactor_tree c.args.reactor.now)) _ c.loop-i.i c.loop-i-test.false) ∙ c.loop-i.invariant
