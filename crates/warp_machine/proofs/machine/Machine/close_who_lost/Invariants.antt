use Rattle.std.proofs.Common.{◌≡◌}
use Rattle.warp_machine.proofs.machine.Machine.close_who_lost.Given as goal

abbrev pub invariant-loop-at : goal.invariant-loop-at
invariant-loop-at g l = l.self.clients ≡ l.initial.self.clients
