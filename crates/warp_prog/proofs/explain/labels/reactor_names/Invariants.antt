-- the names so far, and then those of the reactors that are left, are those of all
use Rattle.std.proofs.Common.{◌≡◌, ◌++◌, drop, map, string_bytes}
use Rattle.warp_prog.specs.Explain.{reactor_called}
use Rattle.warp_prog.specs.View.{reactor_tree}
use Rattle.warp_prog.proofs.explain.labels.reactor_names.Given as goal

abbrev pub invariant-loop-reactor : goal.invariant-loop-reactor
invariant-loop-reactor l =
    map string_bytes l.names.items ++ map reactor_called (map reactor_tree (drop l.reactor-index l.reactors))
    ≡ map reactor_called (map reactor_tree l.reactors)
