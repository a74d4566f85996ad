-- what is left decides
use Rattle.std.proofs.Common.{◌≡◌, drop}
use Rattle.std.specs.List.{list_any}
use Rattle.warp_tag.specs.Moment.{is_same}
use Rattle.warp_cases.proofs.steps.one_at.Given as goal

abbrev pub invariant-loop-waiting : goal.invariant-loop-waiting
invariant-loop-waiting l =
    list_any (λ w. is_same w.tag l.tag) (drop l.waiting-index l.pending)
    ≡ list_any (λ w. is_same w.tag l.tag) l.pending
