use Rattle.std.proofs.Common.{◌≡◌, ◌++◌, map, take, drop}
use Rattle.warp_table.specs.inner.Tally.{with_more}
use Rattle.warp_table.proofs.announced.add_more.Given as goal

-- the front has so many more
abbrev pub invariant-loop-tally : goal.invariant-loop-tally
invariant-loop-tally l = l.tallies ≡ map (with_more l.more) (take l.tally-index l.initial.tallies) ++ drop l.tally-index l.initial.tallies
