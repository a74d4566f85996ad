-- the inputs that are left add what all add
use Rattle.std.proofs.Common.{◌≡◌, ◌++◌, ◌-◌, ◌≤◌, drop}
use Rattle.warp_tag.specs.Table.{live}
use Rattle.warp_trace.specs.Trace.{came}
use Rattle.warp_trace.proofs.TraceItems.{came_from}
use Rattle.warp_trace.proofs.item.gather_events.Given as goal

abbrev pub invariant-loop-number : goal.invariant-loop-number
invariant-loop-number l = record {
  within : l.number ≤ l.end;
  came : l.items.items ++ came_from l.number (drop l.number l.program.inputs) (live l.entries) ≡ came l.program (live l.entries);
}

abbrev pub decreases-loop-number : goal.decreases-loop-number
decreases-loop-number l = l.end - l.number
