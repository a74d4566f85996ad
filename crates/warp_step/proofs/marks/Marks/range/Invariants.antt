-- the numbers so far are in
use Rattle.std.proofs.Common.{◌≡◌}
use Rattle.warp_step.specs.inner.Marks.{marks_from}
use Rattle.warp_step.proofs.marks.Marks.range.Given as goal

abbrev pub invariant-loop-number : goal.invariant-loop-number
invariant-loop-number l = l.marks.word ≡ marks_from l.first l.number
