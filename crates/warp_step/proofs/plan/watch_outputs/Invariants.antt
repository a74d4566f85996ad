-- the marks so far, and then those for the outputs that are left, are those for all
use Rattle.std.proofs.Common.{◌≡◌, drop}
use Rattle.warp_step.specs.inner.Plan.{output_heeds, with_watchers}
use Rattle.warp_step.proofs.plan.watch_outputs.Given as goal

abbrev pub invariant-loop-number : goal.invariant-loop-number
invariant-loop-number l =
    with_watchers output_heeds l.first l.sources l.place l.number (drop l.number l.ports) l.marks.word
    ≡ with_watchers output_heeds l.first l.sources l.place 0 l.ports l.fn.marks.word
