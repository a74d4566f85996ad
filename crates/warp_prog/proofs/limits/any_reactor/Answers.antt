use Rattle.std.proofs.Common.{sym, ◌∙◌}
use Rattle.warp_prog.specs.Limits.{reactor_exceeds}
use Rattle.warp_prog.specs.View.{reactor_tree}
use Rattle.warp_prog.proofs.Anys.{any_seen_more, any_seen_none}
use Rattle.warp_prog.proofs.limits.any_reactor.Goals as goal

pub loop-i-preserved : goal.loop-i-preserved
loop-i-preserved c =
    any_seen_more (reactor_exceeds c.args.form) reactor_tree _ c.loop-i.i c.index-reactors-i.result c.loop-i-test.true c.index-reactors-i.is (sym c.reactor_exceeds.ensures ∙ c.if-reactor_exceeds.false)
    ∙ c.loop-i.invariant

pub returns : goal.returns
returns c = sym (any_seen_none (reactor_exceeds c.args.form) reactor_tree _ c.loop-i.i c.loop-i-test.false) ∙ c.loop-i.invariant
