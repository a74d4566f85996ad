-- the actions so far are those before, and those of the reactor that have been gone over
use Rattle.std.proofs.Common.{◌≡◌, ◌++◌, map, take, unsigned_abs}
use Rattle.warp_prog.proofs.numbered.reactor.add_actions.Given as goal

abbrev pub invariant-loop-action : goal.invariant-loop-action
invariant-loop-action l = l.actions.items ≡ l.fn.actions.items ++ map (λ a. record { reactor = l.before.reactors; delay = unsigned_abs a.delay }) (take l.action-index l.reactor.actions.items)
