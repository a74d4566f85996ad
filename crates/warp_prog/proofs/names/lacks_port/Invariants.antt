-- a reactor that is left has the port exactly if a reactor at all has it
use Rattle.std.proofs.Common.{◌≡◌, drop, map}
use Rattle.warp_prog.specs.View.{reactor_tree}
use Rattle.warp_prog.specs.inner.Rule.{has_port}
use Rattle.warp_prog.proofs.names.lacks_port.Given as goal

abbrev pub invariant-loop-reactor : goal.invariant-loop-reactor
invariant-loop-reactor l =
    has_port l.role (map reactor_tree (drop l.reactor-index l.reactors)) l.port ≡ has_port l.role (map reactor_tree l.reactors) l.port
