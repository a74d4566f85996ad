-- what is heeded so far is what the triggers so far say
use Rattle.std.proofs.Common.{◌≡◌, take}
use Rattle.warp_step.specs.inner.Plan.{heeded}
use Rattle.warp_step.proofs.plan.heeded.Given as goal

abbrev pub invariant-loop-trigger : goal.invariant-loop-trigger
invariant-loop-trigger l = l.flags.items ≡ heeded l.sources (take l.trigger-index l.triggers)
