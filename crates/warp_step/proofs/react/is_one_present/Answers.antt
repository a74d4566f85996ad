-- one target more is not present, or one is, and at the end none is
use Rattle.std.proofs.Common.{◌+◌, ◌||◌, Bool, drop, is_some, ap, sym, ◌∙◌}
use Rattle.std.specs.List.{list_any}
use Rattle.std.proofs.lemmas.List.{at_drop_all, at_drop_more}
use Rattle.warp_body.specs.Presence.{places_of, present_at, target_fits}
use Rattle.warp_body.specs.declared.place.Target.{Target}
use Rattle.warp_body.specs.declared.place.Target.TheVariants as to
use Rattle.warp_step.proofs.FrontLemmas.{left_parts}
use Rattle.warp_step.proofs.react.is_one_present.Goals as goal

pub get-requires : goal.get-requires
get-requires c =
    (left_parts (target_fits (places_of c.args.present.now)) c.args.targets.now c.loop-target.target-index to.Startup c.loop-target-test.true
    c.loop-target.invariant.fits).0

pub returns-then-is_some : goal.returns-then-is_some
returns-then-is_some c =
    let present = λ (target : Target). is_some (present_at c.args.present.now target) in
    let targets = c.args.targets.now in
    let i = c.loop-target.target-index in
    let is = sym c.if-is_some.true ∙ c.is_some.ensures ∙ ap is_some c.get.ensures in
    ap (λ (b : Bool). b || list_any present (drop (i + 1) targets)) is
    ∙ sym (at_drop_more (list_any present) targets i to.Startup c.loop-target-test.true) ∙ c.loop-target.invariant.rest

pub loop-target-preserved : goal.loop-target-preserved
loop-target-preserved c =
    let present = λ (target : Target). is_some (present_at c.args.present.now target) in
    let targets = c.args.targets.now in
    let i = c.loop-target.target-index in
    let is = sym c.if-is_some.false ∙ c.is_some.ensures ∙ ap is_some c.get.ensures in
    record {
      rest = ap (λ (b : Bool). b || list_any present (drop (i + 1) targets)) is
          ∙ sym (at_drop_more (list_any present) targets i to.Startup c.loop-target-test.true) ∙ c.loop-target.invariant.rest;
      fits = (left_parts (target_fits (places_of c.args.present.now)) targets i to.Startup c.loop-target-test.true c.loop-target.invariant.fits).1;
    }

pub returns : goal.returns
returns c =
    let present = λ (target : Target). is_some (present_at c.args.present.now target) in
    sym (at_drop_all (list_any present) c.args.targets.now c.loop-target.target-index c.loop-target-test.false) ∙ c.loop-target.invariant.rest
