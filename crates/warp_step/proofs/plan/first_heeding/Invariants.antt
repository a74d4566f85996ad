-- the first of the lists of flags that are left is the first of all
use Rattle.std.proofs.Common.{◌≡◌, drop, map}
use Rattle.warp_step.specs.inner.Plan.{first_flagged}
use Rattle.warp_step.proofs.plan.first_heeding.Given as goal

abbrev pub invariant-loop-turn : goal.invariant-loop-turn
invariant-loop-turn l =
    first_flagged l.number l.turn (map (λ flags. flags.items) (drop l.turn l.flag_lists)) ≡ first_flagged l.number 0 (map (λ flags. flags.items) l.flag_lists)
