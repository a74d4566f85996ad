-- the label in the reactors that are left is that in all
use Rattle.std.proofs.Common.{◌≡◌, drop, map}
use Rattle.warp_prog.specs.Explain.{port_called}
use Rattle.warp_prog.specs.View.{reactor_tree}
use Rattle.warp_prog.proofs.explain.labels.port_label.Given as goal

abbrev pub invariant-loop-reactor : goal.invariant-loop-reactor
invariant-loop-reactor l =
    port_called (map reactor_tree (drop l.reactor-index l.reactors)) l.port ≡ port_called (map reactor_tree l.reactors) l.port
