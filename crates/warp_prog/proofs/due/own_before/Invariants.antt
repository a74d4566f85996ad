-- so many of the times so far, and no more than there were
use Rattle.std.proofs.Common.{◌≡◌, ◌≤◌}
use Rattle.warp_prog.specs.OwnRows.{own_before}
use Rattle.warp_prog.proofs.due.own_before.Given as goal

abbrev pub invariant-loop-time : goal.invariant-loop-time
invariant-loop-time l = (l.rows ≡ own_before l.program l.time) × (l.rows ≤ l.time)
