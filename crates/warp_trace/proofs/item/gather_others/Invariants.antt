-- the runs that are left add what all add
use Rattle.std.proofs.Common.{◌≡◌, ◌++◌, ◌*◌}
use Rattle.warp_trace.specs.Trace.{changed}
use Rattle.warp_trace.specs.inner.Tracing.{changed_from}
use Rattle.warp_trace.proofs.item.gather_others.Given as goal

abbrev pub invariant-loop-number : goal.invariant-loop-number
invariant-loop-number l = l.items.items ++ changed_from l.before l.after (l.number * 8) ≡ changed l.before l.after
