use Rattle.std.proofs.Common.{◌≡◌}
use Rattle.warp_machine.proofs.machine.Machine.compare_each.Given as goal

abbrev pub invariant-loop-at : goal.invariant-loop-at
invariant-loop-at g l = l.self.clients ≡ l.initial.self.clients
