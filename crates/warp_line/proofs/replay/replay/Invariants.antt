-- The rows so far are a front of the run, and the entries that are left are a table. So many ticks may come yet.
use Rattle.std.proofs.Common.{◌≡◌, ◌+◌, ◌-◌, length, IsTrue}
use Rattle.std.specs.List.{list_all}
use Rattle.warp_tag.specs.Table.{IsTable, live}
use Rattle.warp_step.specs.Snapshot.{IsStateOf}
use Rattle.warp_step.specs.Scratch.{IsRoomOf}
use Rattle.warp_step.specs.Events.{event_fits}
use Rattle.warp_line.proofs.ProgressLemmas.{Progress, rows_left}
use Rattle.warp_line.proofs.replay.replay.Given as goal

abbrev pub invariant-rows : goal.invariant-rows
invariant-rows g l = record {
  progress : Progress l.program l.entries l.rest l.state l.outputs.items (g.M.Meter.ticks l.fn.meter) (g.M.Meter.ticks l.meter);
  table : IsTable l.rest;
  events : IsTrue (list_all (event_fits l.program) (live l.rest));
  state : IsStateOf l.program l.state;
  scratch : IsRoomOf l.program l.scratch;
  left : g.M.Meter.ticks l.meter + l.left ≡ g.M.Meter.ticks l.fn.meter + l.most;
}

-- entries that are left, and rows that are left
abbrev pub decreases-rows : goal.decreases-rows
decreases-rows g l = length l.rest + rows_left l.program l.entries (g.M.Meter.ticks l.meter - g.M.Meter.ticks l.fn.meter)
