use Rattle.std.proofs.Common.{◌≡◌, ◌++◌, map, take, drop, fold}
use Rattle.warp_table.specs.inner.Tally.{with_name, with_tally}
use Rattle.warp_table.proofs.announced.count_in.Given as goal

-- the front is counted and judged
abbrev pub invariant-loop-tally : goal.invariant-loop-tally
invariant-loop-tally l = record {
  counted : l.later ≡ map (with_name l.kind) (take l.tally-index l.initial.later) ++ drop l.tally-index l.initial.later;
  judged : l.verdict ≡ fold with_tally l.initial.verdict (take l.tally-index l.later);
}
