use Rattle.std.proofs.Common.{sym, ◌∙◌}
use Rattle.warp_prog.specs.Limits.{reaction_exceeds}
use Rattle.warp_prog.specs.View.{reaction_tree}
use Rattle.warp_prog.proofs.Anys.{any_seen_none}
use Rattle.warp_prog.proofs.limits.any_reaction.Goals as goal

pub returns : goal.returns
returns c = sym (any_seen_none (reaction_exceeds c.args.form) reaction_tree _ c.loop-i.i c.loop-i-test.false) ∙ c.loop-i.invariant
