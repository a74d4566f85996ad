-- the marks so far, and then those of the lists of flags that are left, are those of all
use Rattle.std.proofs.Common.{◌≡◌, drop, map}
use Rattle.warp_step.specs.inner.Plan.{with_heeding}
use Rattle.warp_step.proofs.plan.watch_reactions.Given as goal

abbrev pub invariant-loop-turn : goal.invariant-loop-turn
invariant-loop-turn l =
    with_heeding l.number l.turn (map (λ flags. flags.items) (drop l.turn l.flag_lists)) l.marks.word
    ≡ with_heeding l.number 0 (map (λ flags. flags.items) l.flag_lists) l.fn.marks.word
