-- So many were handed, and no more room is gone than they took.
use Rattle.std.proofs.Common.{◌≡◌, ◌≤◌, ◌+◌, ◌++◌, take}
use Rattle.rtrb.specs.Ring.{known_free, sent}
use Rattle.warp_disk.specs.Handing.{since}
use Rattle.warp_disk.proofs.handing.hand_all.Given as goal

abbrev pub invariant-loop-entry : goal.invariant-loop-entry
invariant-loop-entry l = (l.count ≡ l.entry-index) × (sent l.ring ≡ sent l.initial.ring ++ since l.beginning (take l.entry-index l.records))
    × (known_free l.initial.ring ≤ known_free l.ring + l.entry-index)
