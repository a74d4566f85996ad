use Rattle.std.proofs.Common.{take}
use Rattle.warp_table.specs.inner.Joint.{IsLeastOf}
use Rattle.warp_table.proofs.joint.least_doubled.Given as goal

-- it is the least of the origins so far
abbrev pub invariant-loop-announcer : goal.invariant-loop-announcer
invariant-loop-announcer l = IsLeastOf (take l.announcer-index l.announcers) l.least
