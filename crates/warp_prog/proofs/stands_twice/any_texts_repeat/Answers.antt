use Rattle.std.proofs.Common.{sym, ◌∙◌}
use Rattle.warp_prog.specs.Twice.{texts_twice}
use Rattle.warp_prog.specs.View.{reactor_tree}
use Rattle.warp_prog.proofs.Anys.{any_seen_more, any_seen_none}
use Rattle.warp_prog.proofs.stands_twice.any_texts_repeat.Goals as goal

pub loop-reactor-preserved : goal.loop-reactor-preserved
loop-reactor-preserved c =
    any_seen_more texts_twice reactor_tree _ c.loop-reactor.reactor-index c.reactor-item.result c.loop-reactor-test.true c.reactor-item.is (sym c.texts_repeat.ensures ∙ c.if-texts_repeat.false)
    ∙ c.loop-reactor.invariant

pub returns : goal.returns
returns c = sym (any_seen_none texts_twice reactor_tree _ c.loop-reactor.reactor-index c.loop-reactor-test.false) ∙ c.loop-reactor.invariant
