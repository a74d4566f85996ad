-- nothing is heeded at first, and then one place more
use Rattle.std.proofs.Common.{◌≡◌, true, get_or, refl, ap, ◌∙◌}
use Rattle.std.specs.Prelude.{slice_set}
use Rattle.warp_body.specs.declared.place.Target.TheVariants as to
use Rattle.warp_step.specs.inner.Plan.{is_numbered, place_number, place_of}
use Rattle.warp_step.proofs.HeededLemmas.{heeded_more, none_heeded}
use Rattle.warp_step.proofs.ValidLemmas.{list_all_get}
use Rattle.warp_step.proofs.plan.heeded.Goals as goal

pub loop-trigger-init : goal.loop-trigger-init
loop-trigger-init c = c.in_ok-flags.ensures.items_if_clones_equal (λ y h. h) ∙ none_heeded c.args.sources.now

pub loop-trigger-preserved : goal.loop-trigger-preserved
loop-trigger-preserved c =
    let sources = c.args.sources.now in
    let triggers = c.args.triggers.now in
    let i = c.loop-trigger.trigger-index in
    let trigger = get_or triggers i to.Startup in
    let place : c.place_number.result ≡ place_number (place_of sources trigger) = c.place_number.ensures ∙ ap place_number c.place_of.ensures in
    (λ j. slice_set (c.loop-trigger.invariant j) (place j) true)
    ∙ heeded_more sources triggers i trigger c.loop-trigger-test.true refl
    (list_all_get (λ t. is_numbered (place_of sources t)) triggers i to.Startup c.requires c.loop-trigger-test.true)
