-- the marks so far, and then those of the ports that are left, are those of all
use Rattle.std.proofs.Common.{◌≡◌, drop, map}
use Rattle.warp_step.specs.inner.Marks.{no_marks}
use Rattle.warp_step.specs.inner.Plan.{with_ports}
use Rattle.warp_step.proofs.plan.marks_of_ports.Given as goal

abbrev pub invariant-loop-target : goal.invariant-loop-target
invariant-loop-target l =
    with_ports (map (λ one. one.marks.word) l.places) (drop l.target-index l.targets) l.marks.word
    ≡ with_ports (map (λ one. one.marks.word) l.places) l.targets no_marks
