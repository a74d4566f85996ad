-- none of the names so far has an event for an input from the first one on that is before the next
use Rattle.std.proofs.Common.{◌≡◌, [], ℕ, ◌<◌, ◌≤◌, filter, take}
use Rattle.std.specs.Prelude.{◌==◌}
use Rattle.warp_tag.specs.Table.{live}
use Rattle.warp_trace.proofs.item.next_input.Given as goal

abbrev pub invariant-loop-entry : goal.invariant-loop-entry
invariant-loop-entry l = record {
  from : l.from ≤ l.next;
  end : l.next ≤ l.end;
  none : (n : ℕ) → l.from ≤ n → n < l.next → filter (λ e. e.input == n) (live (take l.entry-index l.entries)) ≡ [];
}
