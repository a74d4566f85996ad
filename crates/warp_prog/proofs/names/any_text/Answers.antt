use Rattle.std.proofs.Common.{sym, ◌∙◌}
use Rattle.warp_prog.specs.Names.{texts_unknown}
use Rattle.warp_prog.specs.View.{reactor_tree}
use Rattle.warp_prog.proofs.Anys.{any_seen_more, any_seen_none}
use Rattle.warp_prog.proofs.names.any_text.Goals as goal

pub loop-i-preserved : goal.loop-i-preserved
loop-i-preserved c =
    any_seen_more texts_unknown reactor_tree _ c.loop-i.i c.index-reactors-i.result c.loop-i-test.true c.index-reactors-i.is (sym c.texts_unknown.ensures ∙ c.if-texts_unknown.false)
    ∙ c.loop-i.invariant

pub returns : goal.returns
returns c = sym (any_seen_none texts_unknown reactor_tree _ c.loop-i.i c.loop-i-test.false) ∙ c.loop-i.invariant
