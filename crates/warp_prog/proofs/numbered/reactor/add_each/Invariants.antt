-- the ports so far are those before, and those of the reactor that have been gone over
use Rattle.std.proofs.Common.{◌≡◌, ◌++◌, map, take}
use Rattle.warp_prog.proofs.numbered.reactor.add_each.Given as goal

abbrev pub invariant-loop-name : goal.invariant-loop-name
invariant-loop-name l = l.ports.items ≡ l.fn.ports.items ++ map (λ name. record { reactor = l.reactor; is_input = l.is_input }) (take l._name-index l.names)
