-- what is marked so far, and then by the ways that are left, is what is marked by all
use Rattle.std.proofs.Common.{◌≡◌, drop}
use Rattle.warp_prog.specs.inner.Spread.{with_ends}
use Rattle.warp_prog.proofs.explain.waits.mark_ends.Given as goal

abbrev pub invariant-loop-way : goal.invariant-loop-way
invariant-loop-way l = with_ends (drop l.way-index l.ways) l.marks.items ≡ with_ends l.ways l.fn.marks.items
