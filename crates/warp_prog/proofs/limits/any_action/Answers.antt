use Rattle.std.proofs.Common.{sym, ◌∙◌}
use Rattle.warp_prog.specs.Limits.{action_exceeds}
use Rattle.warp_prog.proofs.Anys.{any_none}
use Rattle.warp_prog.proofs.limits.any_action.Goals as goal

pub returns : goal.returns
returns c = sym (any_none (action_exceeds c.args.form) _ c.loop-i.i c.loop-i-test.false) ∙ c.loop-i.invariant
