-- the cells so far are those before, and those of the starts that have been gone over
use Rattle.std.proofs.Common.{◌≡◌, ◌++◌, false, map, take}
use Rattle.warp_prog.proofs.numbered.reactor.add_given.Given as goal

abbrev pub invariant-loop-start : goal.invariant-loop-start
invariant-loop-start l = l.cells.items ≡ l.fn.cells.items ++ map (λ n. record { reactor = l.reactor; is_told = false; start = n }) (take l.start-index l.starts)
