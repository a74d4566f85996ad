-- so many rows were executed as there were ticks, and so many may come yet
use Rattle.std.proofs.Common.{◌≡◌, ◌+◌, ◌-◌, ◌≤◌, false}
use Rattle.warp_tag.specs.Limits.{most_names}
use Rattle.warp_line.specs.Timeline.{Standing}
use Rattle.warp_run.specs.Warp.{Goes, StandsFor}
use Rattle.warp_run.proofs.warp.Warp.catch_up_some.Given as goal

abbrev pub invariant-loop-next : goal.invariant-loop-next
invariant-loop-next g l = record {
  goes : Goes l.program l.fn.self l.self (g.M.Meter.ticks l.meter - g.M.Meter.ticks l.fn.meter);
  ticked : g.M.Meter.ticks l.fn.meter ≤ g.M.Meter.ticks l.meter;
  left : g.M.Meter.ticks l.meter + l.left ≡ g.M.Meter.ticks l.fn.meter + l.most;
  unsettled : l.self.settled ≡ false;
  floor : l.self.tip.floor ≡ l.fn.self.tip.floor;
  stands : (m : Standing) × StandsFor l.self m × (m.program ≡ l.program);
}

-- no more rows than there may be names
abbrev pub decreases-loop-next : goal.decreases-loop-next
decreases-loop-next g l = most_names - l.self.tip.rows
