-- the numbers so far, and then those of the variables that are left, are those before and those of all
use Rattle.std.proofs.Common.{◌≡◌, ◌+◌, ◌++◌, drop}
use Rattle.warp_prog.specs.Explain.{hidden_in}
use Rattle.warp_prog.proofs.explain.labels.add_hidden.Given as goal

abbrev pub invariant-loop-i : goal.invariant-loop-i
invariant-loop-i l =
    l.numbers.items ++ hidden_in (l.first + l.i) l.reactor.hidden.items (drop l.i l.reactor.variables.items)
    ≡ l.fn.numbers.items ++ hidden_in l.first l.reactor.hidden.items l.reactor.variables.items
