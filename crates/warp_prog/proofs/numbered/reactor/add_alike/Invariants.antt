-- the cells so far are those before, and one that starts alike for each turn
use Rattle.std.proofs.Common.{◌≡◌, ◌++◌, false, map, replicate}
use Rattle.warp_prog.proofs.numbered.reactor.add_alike.Given as goal

abbrev pub invariant-loop : goal.invariant-loop
invariant-loop l = l.cells.items ≡ l.fn.cells.items ++ map (λ n. record { reactor = l.reactor; is_told = false; start = n }) (replicate l.counter l.start)
