-- the variables so far are those before, and those of the reactor that have been gone over
use Rattle.std.proofs.Common.{◌≡◌, ◌++◌, map, not, take}
use Rattle.warp_prog.specs.Uses.{is_among}
use Rattle.warp_prog.proofs.numbered.reactor.add_variables.Given as goal

abbrev pub invariant-loop-variable : goal.invariant-loop-variable
invariant-loop-variable l = l.variables.items ≡ l.fn.variables.items ++ map (λ v. record { reactor = l.before.reactors; is_told = not (is_among l.reactor.hidden.items v.name); start = v.start }) (take l.variable-index l.reactor.variables.items)
