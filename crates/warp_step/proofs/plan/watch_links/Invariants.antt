-- the marks so far, and then those for the links that are left, are those for all
use Rattle.std.proofs.Common.{◌≡◌, drop}
use Rattle.warp_step.specs.inner.Plan.{link_heeds, with_watchers}
use Rattle.warp_step.proofs.plan.watch_links.Given as goal

abbrev pub invariant-loop-number : goal.invariant-loop-number
invariant-loop-number l =
    with_watchers link_heeds l.first l.sources l.place l.number (drop l.number l.links) l.marks.word
    ≡ with_watchers link_heeds l.first l.sources l.place 0 l.links l.fn.marks.word
