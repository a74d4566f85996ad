-- So much is out, and with the text that waits and the lines of the rows that are left it is all; less than a piece waits,
-- and the names that are left are a table.
use Rattle.std.proofs.Common.{◌≡◌, ◌+◌, ◌-◌, ◌<◌, List, ◌++◌, ℕ, length, IsTrue}
use Rattle.std.specs.Io.KnownBytes.{Appends}
use Rattle.std.specs.List.{list_all}
use Rattle.warp_tag.specs.Table.{IsTable, live}
use Rattle.warp_step.specs.Snapshot.{IsStateOf}
use Rattle.warp_step.specs.Scratch.{IsRoomOf}
use Rattle.warp_step.specs.Events.{event_fits}
use Rattle.warp_line.proofs.ProgressLemmas.{rows_left}
use Rattle.warp_trace.specs.Printed.{piece}
use Rattle.warp_trace.proofs.TraceTurns.{Reached}
use Rattle.warp_trace.proofs.trace.trace_rows.Given as goal

abbrev pub invariant-rows : goal.invariant-rows
invariant-rows g l = record {
  sent : List ℕ;
  out : Appends (g.O.Printer.written l.initial.out) (g.O.Printer.written l.out) sent;
  sound : g.O.Printer.failures l.out ≡ g.O.Printer.failures l.initial.out;
  kept : g.O.Printer.kept l.out ≡ g.O.Printer.kept l.initial.out;
  short : length l.work.text.items < piece;
  reached : Reached l.labels l.program l.horizon l.entries l.rest l.work.state (sent ++ l.work.text.items)
      (g.M.Meter.ticks l.fn.meter) (g.M.Meter.ticks l.meter);
  table : IsTable l.rest;
  events : IsTrue (list_all (event_fits l.program) (live l.rest));
  state : IsStateOf l.program l.work.state;
  scratch : IsRoomOf l.program l.work.scratch;
}

-- names that are left, and rows that are left
abbrev pub decreases-rows : goal.decreases-rows
decreases-rows g l = length l.rest + rows_left l.program l.entries (g.M.Meter.ticks l.meter - g.M.Meter.ticks l.fn.meter)
