use Rattle.std.proofs.Common.{◌≡◌}
use Rattle.warp_clients.proofs.crowd.Crowd.next_listed.Given as goal

abbrev pub invariant-loop : goal.invariant-loop
invariant-loop l = l.self ≡ l.initial.self
