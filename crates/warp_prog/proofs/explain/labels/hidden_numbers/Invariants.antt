-- the numbers so far, and then those of the reactors that are left, are those of all, and there is room for the numbers of all
use Rattle.std.proofs.Common.{◌≡◌, ◌+◌, ◌++◌, ◌≤◌, drop, map}
use Rattle.warp_tag.specs.Limits.{most_variables, widest}
use Rattle.warp_prog.specs.Explain.{hidden_from}
use Rattle.warp_prog.specs.Numbered.{variables_in}
use Rattle.warp_prog.specs.View.{reactor_tree}
use Rattle.warp_prog.proofs.explain.labels.hidden_numbers.Given as goal

abbrev pub invariant-loop-reactor : goal.invariant-loop-reactor
invariant-loop-reactor l =
    let left = map reactor_tree (drop l.reactor-index l.reactors) in
    record {
      room : l.first + variables_in left ≤ most_variables widest;
      numbers : l.numbers.items ++ hidden_from l.first left ≡ hidden_from 0 (map reactor_tree l.reactors);
    }
