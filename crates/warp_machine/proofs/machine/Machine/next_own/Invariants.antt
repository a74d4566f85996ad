use Rattle.std.proofs.Common.{◌≡◌}
use Rattle.warp_machine.proofs.machine.Machine.next_own.Given as goal

abbrev pub invariant-loop : goal.invariant-loop
invariant-loop g l = l.self.clients ≡ l.initial.self.clients
