-- there is a list of flags for each turn so far
use Rattle.std.proofs.Common.{◌≡◌, map, take}
use Rattle.warp_step.specs.inner.Plan.{heeded, rule_numbered}
use Rattle.warp_step.specs.Step.{sources_of}
use Rattle.warp_step.proofs.plan.heeded_in_turn.Given as goal

abbrev pub invariant-loop-number : goal.invariant-loop-number
invariant-loop-number l =
    map (λ flags. flags.items) l.flag_lists.items
    ≡ map (λ n. heeded (sources_of l.program) (rule_numbered l.program.reactions n).triggers) (take l.number-index l.number-items)
