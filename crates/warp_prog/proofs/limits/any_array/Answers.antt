use Rattle.std.proofs.Common.{sym, ◌∙◌}
use Rattle.warp_prog.specs.Limits.{array_exceeds}
use Rattle.warp_prog.specs.View.{array_tree}
use Rattle.warp_prog.proofs.Anys.{any_seen_more, any_seen_none}
use Rattle.warp_prog.proofs.limits.any_array.Goals as goal

pub loop-i-preserved : goal.loop-i-preserved
loop-i-preserved c =
    any_seen_more array_exceeds array_tree _ c.loop-i.i c.index-arrays-i.result c.loop-i-test.true c.index-arrays-i.is (sym c.array_exceeds.ensures ∙ c.if-array_exceeds.false)
    ∙ c.loop-i.invariant

pub returns : goal.returns
returns c = sym (any_seen_none array_exceeds array_tree _ c.loop-i.i c.loop-i-test.false) ∙ c.loop-i.invariant
