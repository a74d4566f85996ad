-- The lines so far were sent.
use Rattle.std.proofs.Common.{◌≡◌, ◌+◌, ◌-◌, ◌≤◌, ◌++◌, All, false, length, take}
use Rattle.warp_session.specs.inner.Fetched.{is_look}
use Rattle.warp_session.proofs.port_desk.send_first.Given as goal

abbrev pub invariant-loop-count : goal.invariant-loop-count
invariant-loop-count l = record {
  within : l.count ≤ length l.lines;
  sent : l.port ≡ record l.initial.port { sent = l.initial.port.sent ++ take l.count l.lines; free = l.port.free };
  free : l.initial.port.free ≤ l.port.free + l.count;
  none : l.count ≡ 0 → l.port ≡ l.initial.port;
  commands : All (λ line. is_look line ≡ false) (take l.count l.lines);
}

abbrev pub decreases-loop-count : goal.decreases-loop-count
decreases-loop-count l = length l.lines - l.count
