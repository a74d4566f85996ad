-- the labels so far, and then those of the reactors that are left, are those of all, and there is room for the numbers of all
use Rattle.std.proofs.Common.{◌≡◌, ◌+◌, ◌++◌, ◌≤◌, drop, map}
use Rattle.warp_tag.specs.Limits.{most_variables, widest}
use Rattle.warp_step.specs.Labelled.{array_name}
use Rattle.warp_prog.specs.Explain.{arrays_from}
use Rattle.warp_prog.specs.Limits.{cells_of, total}
use Rattle.warp_prog.specs.View.{reactor_tree}
use Rattle.warp_prog.proofs.explain.labels.array_labels.Given as goal

abbrev pub invariant-loop-reactor : goal.invariant-loop-reactor
invariant-loop-reactor l =
    let left = map reactor_tree (drop l.reactor-index l.reactors) in
    record {
      room : l.first + total (λ r. cells_of r.arrays) left ≤ most_variables widest;
      labels : map array_name l.labels.items ++ arrays_from l.first left ≡ arrays_from l.variables (map reactor_tree l.reactors);
    }
