use Rattle.std.proofs.Common.{sym, ◌∙◌}
use Rattle.warp_prog.specs.Limits.{link_exceeds}
use Rattle.warp_prog.proofs.Anys.{any_more, any_none}
use Rattle.warp_prog.proofs.limits.any_link.Goals as goal

pub loop-i-preserved : goal.loop-i-preserved
loop-i-preserved c =
    any_more (link_exceeds c.args.form) _ c.loop-i.i c.index-links-i.result c.loop-i-test.true c.index-links-i.is (sym c.link_exceeds.ensures ∙ c.if-link_exceeds.false)
    ∙ c.loop-i.invariant

pub returns : goal.returns
returns c = sym (any_none (link_exceeds c.args.form) _ c.loop-i.i c.loop-i-test.false) ∙ c.loop-i.invariant
