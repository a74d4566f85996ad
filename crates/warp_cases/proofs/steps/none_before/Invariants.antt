-- what is left decides
use Rattle.std.proofs.Common.{◌≡◌, drop, not}
use Rattle.std.specs.List.{list_all}
use Rattle.warp_tag.specs.Moment.{is_before}
use Rattle.warp_cases.proofs.steps.none_before.Given as goal

abbrev pub invariant-loop-waiting : goal.invariant-loop-waiting
invariant-loop-waiting l =
    list_all (λ w. not (is_before w.tag l.tag)) (drop l.waiting-index l.pending)
    ≡ list_all (λ w. not (is_before w.tag l.tag)) l.pending
