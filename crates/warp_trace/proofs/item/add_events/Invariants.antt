-- what is left adds what all add
use Rattle.std.proofs.Common.{◌≡◌, ◌++◌, drop, filter, map}
use Rattle.std.specs.Prelude.{◌==◌}
use Rattle.warp_tag.specs.Table.{live}
use Rattle.warp_trace.specs.Trace.{came_of}
use Rattle.warp_trace.proofs.item.add_events.Given as goal

abbrev pub invariant-loop-entry : goal.invariant-loop-entry
invariant-loop-entry l =
    l.items.items ++ map came_of (filter (λ e. e.input == l.input) (live (drop l.entry-index l.entries)))
    ≡ l.initial.items.items ++ map came_of (filter (λ e. e.input == l.input) (live l.entries))
