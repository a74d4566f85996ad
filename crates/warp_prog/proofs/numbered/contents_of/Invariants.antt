-- what the reactors so far have, and then those that are left, which have room after those before, is what all have
use Rattle.std.proofs.Common.{◌≡◌, ◌++◌, map, drop}
use Rattle.warp_step.specs.Program.{rule_of}
use Rattle.warp_prog.specs.Numbered.{in_each, its_variables, its_cells, its_ports, its_actions, its_timers, its_reactions}
use Rattle.warp_prog.specs.inner.Room.{HaveRoom}
use Rattle.warp_prog.specs.View.{reactor_tree}
use Rattle.warp_prog.proofs.numbered.contents_of.Given as goal

abbrev pub invariant-loop-reactor : goal.invariant-loop-reactor
invariant-loop-reactor l =
    let all = map reactor_tree l.reactors in
    let left = map reactor_tree (drop l.reactor-index l.reactors) in
    record {
      room : HaveRoom l.before left;
      variables : l.contents.variables.items ++ in_each its_variables l.before left ≡ in_each its_variables l.fn.first all;
      cells : l.contents.cells.items ++ in_each its_cells l.before left ≡ in_each its_cells l.fn.first all;
      ports : l.contents.ports.items ++ in_each its_ports l.before left ≡ in_each its_ports l.fn.first all;
      actions : l.contents.actions.items ++ in_each its_actions l.before left ≡ in_each its_actions l.fn.first all;
      timers : l.contents.timers.items ++ in_each its_timers l.before left ≡ in_each its_timers l.fn.first all;
      reactions : map rule_of l.contents.reactions.items ++ in_each its_reactions l.before left ≡ in_each its_reactions l.fn.first all;
    }
