-- what was added, and what is left, is all
use Rattle.std.proofs.Common.{◌≡◌, ◌++◌}
use Rattle.warp_trace.specs.inner.Tracing.{changed_from}
use Rattle.warp_trace.proofs.item.add_others.Given as goal

abbrev pub invariant-loop-number : goal.invariant-loop-number
invariant-loop-number l =
    l.items.items ++ changed_from l.before l.after l.number ≡ l.initial.items.items ++ changed_from l.before l.after l.from
