-- the variables so far, and those of the reactors that are left, are those of all
use Rattle.std.proofs.Common.{◌≡◌, ◌+◌, drop, map}
use Rattle.warp_prog.specs.Numbered.{variables_in}
use Rattle.warp_prog.specs.View.{reactor_tree}
use Rattle.warp_prog.proofs.numbered.variables_in.Given as goal

abbrev pub invariant-loop-reactor : goal.invariant-loop-reactor
invariant-loop-reactor l = l.count + variables_in (map reactor_tree (drop l.reactor-index l.reactors)) ≡ variables_in (map reactor_tree l.reactors)
