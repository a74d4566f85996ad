use Rattle.std.proofs.Common.{take}
use Rattle.std.specs.List.{All}
use Rattle.warp_table.specs.inner.Tally.{IsSpared}
use Rattle.warp_table.proofs.announced.spare_of.Given as goal

-- so many may be counted in the front
abbrev pub invariant-loop-tally : goal.invariant-loop-tally
invariant-loop-tally l = All (IsSpared l.least) (take l.tally-index l.tallies)
