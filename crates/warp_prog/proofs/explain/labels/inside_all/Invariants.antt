-- the labels so far, and then those of the reactors that are left, are those of all
use Rattle.std.proofs.Common.{◌≡◌, ◌++◌, map, drop, string_bytes}
use Rattle.warp_prog.specs.Explain.{labels_in, port_names}
use Rattle.warp_prog.specs.Uses.{action_names, timer_names, variable_names}
use Rattle.warp_prog.specs.View.{reactor_tree}
use Rattle.warp_prog.proofs.explain.labels.inside_all.Given as goal

abbrev pub invariant-loop-reactor : goal.invariant-loop-reactor
invariant-loop-reactor l =
    let all = map reactor_tree l.reactors in
    let left = map reactor_tree (drop l.reactor-index l.reactors) in
    record {
      variables : map string_bytes l.inside.variables.items ++ labels_in variable_names left ≡ labels_in variable_names all;
      ports : map string_bytes l.inside.ports.items ++ labels_in port_names left ≡ labels_in port_names all;
      actions : map string_bytes l.inside.actions.items ++ labels_in action_names left ≡ labels_in action_names all;
      timers : map string_bytes l.inside.timers.items ++ labels_in timer_names left ≡ labels_in timer_names all;
    }
