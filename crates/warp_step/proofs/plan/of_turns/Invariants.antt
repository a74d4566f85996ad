-- what is kept so far is for the turns so far
use Rattle.std.proofs.Common.{◌≡◌, map, take}
use Rattle.warp_step.specs.inner.Plan.{ready_turn, turn_plan}
use Rattle.warp_step.proofs.plan.of_turns.Given as goal

abbrev pub invariant-loop-number : goal.invariant-loop-number
invariant-loop-number l = map ready_turn l.all.items ≡ map (turn_plan l.program) (take l.number-index l.number-items)
