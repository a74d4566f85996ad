-- the values so far are those of the variables so far
use Rattle.std.proofs.Common.{◌≡◌, map, take}
use Rattle.warp_step.proofs.state.start_values.Given as goal

abbrev pub invariant-loop-variable : goal.invariant-loop-variable
invariant-loop-variable l = l.values.items ≡ map (λ v. v.start) (take l.variable-index l.variables)
